use Rattle.rp_race.proofs.laws.each_node_of_a_race_has_a_live_replica.Goals as goal
use Rattle.rp_race.proofs.Living.{race_lives, good_in_race}

pub returns : goal.returns
returns c = record { live = race_lives; good = good_in_race }

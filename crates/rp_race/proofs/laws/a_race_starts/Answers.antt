use Rattle.rp_race.proofs.laws.a_race_starts.Goals as goal
use Rattle.rp_race.proofs.Keeping.{race_first}
use Rattle.rp_race.proofs.Trying.{tries_first}

pub returns : goal.returns
returns c = record { race = race_first; tries = tries_first }

use Rattle.rp_seats.proofs.laws.a_shut_range_may_only_start.Goals as goal
use Rattle.rp_seats.proofs.Shut.{scene_starts, stays_shut}

pub returns : goal.returns
returns c = record { starts = scene_starts; stays = stays_shut }

use Rattle.rp_seats.proofs.laws.a_shut_range_may_start.Goals as goal
use Rattle.rp_seats.proofs.Opens.{opens}

pub returns : goal.returns
returns c = opens

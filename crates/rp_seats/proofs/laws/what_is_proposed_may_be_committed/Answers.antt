use Rattle.rp_seats.proofs.laws.what_is_proposed_may_be_committed.Goals as goal
use Rattle.rp_seats.proofs.Moves.{bytes_may}

pub returns : goal.returns
returns c node h ps latches told ok fits asks all ids = bytes_may node h ps latches told ok fits asks all ids

use Rattle.rp_seats.proofs.laws.moves_leave_what_is_applied.Goals as goal
use Rattle.rp_seats.proofs.Turns.{moves_kept}

pub returns : goal.returns
returns c = moves_kept

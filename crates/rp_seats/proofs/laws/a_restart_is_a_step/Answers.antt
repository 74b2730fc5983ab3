use Rattle.rp_seats.proofs.laws.a_restart_is_a_step.Goals as goal
use Rattle.rp_seats.proofs.Seats.{restart_turn}

pub returns : goal.returns
returns c node range h told r seat state = restart_turn node range h told r seat state

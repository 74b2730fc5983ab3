use Rattle.rp_seats.proofs.laws.events_elsewhere_leave_a_seat.Goals as goal
use Rattle.rp_seats.proofs.Others.{seat_of_other}

pub returns : goal.returns
returns c = seat_of_other

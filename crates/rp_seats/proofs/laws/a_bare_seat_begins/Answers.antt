use Rattle.rp_seats.proofs.laws.a_bare_seat_begins.Goals as goal
use Rattle.rp_seats.proofs.Begins.{start_turn, made_turn}

pub returns : goal.returns
returns c = record { start = start_turn; made = made_turn }

use Rattle.rp_seats.proofs.laws.a_seat_shows_the_machine.Goals as goal
use Rattle.rp_seats.proofs.Events.{state, next}

pub returns : goal.returns
returns c = record {
  state = λ lists range s seen w h node n r k. state lists range s seen w h node n r k;
  next = λ lists range s seen w h node n r k p is. next lists range s seen w h node n r k p is;
}

use Rattle.rp_seats.proofs.laws.an_event_of_a_replica_is_its_turn.Goals as goal
use Rattle.rp_seats.proofs.Turns.{replica_turn}

pub returns : goal.returns
returns c nodes range start node number r ticks round e taken sent = replica_turn nodes range start node number r ticks round sent e taken

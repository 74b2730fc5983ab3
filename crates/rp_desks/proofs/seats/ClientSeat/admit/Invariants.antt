use Rattle.std.proofs.Common.{◌≡◌}
use Rattle.rp_switch.specs.Seats.{known_by}
use Rattle.rp_desks.specs.Onward.{Stays}
use Rattle.rp_desks.proofs.seats.ClientSeat.admit.Given as goal

abbrev pub invariant-loop : goal.invariant-loop
invariant-loop g l = record {
  same : l.self.client ≡ l.fn.self.client;
  stays : Stays l.fn.self.client (known_by l.fn.self.seat) (known_by l.self.seat);
}

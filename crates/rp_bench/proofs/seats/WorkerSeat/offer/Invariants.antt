use Rattle.std.proofs.Common.{◌≡◌}
use Rattle.rp_switch.specs.Seats.{known_by}
use Rattle.rp_bench.proofs.seats.WorkerSeat.offer.Given as goal

-- the seat has seen the same
abbrev pub invariant-loop-place : goal.invariant-loop-place
invariant-loop-place g l = (known_by l.self.seat).seen ≡ (known_by l.fn.self.seat).seen

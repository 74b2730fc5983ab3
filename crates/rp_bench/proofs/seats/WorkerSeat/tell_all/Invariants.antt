use Rattle.std.proofs.Common.{◌≡◌}
use Rattle.rp_switch.specs.Seats.{known_by}
use Rattle.rp_bench.proofs.seats.WorkerSeat.tell_all.Given as goal

-- the seat has seen the same
abbrev pub invariant-loop-ended : goal.invariant-loop-ended
invariant-loop-ended g l = (known_by l.self.seat).seen ≡ (known_by l.fn.self.seat).seen

use Rattle.std.proofs.Common.{◌≡◌, ◌≤◌}
use Rattle.rp_switch.specs.Seats.{known_by, IsSeatOf, IsSame}
use Rattle.rp_switch.specs.Views.{Idle}
use Rattle.rp_switch_calls.proofs.four_threads.passes_often.Given as goal

-- the seat is at rest
abbrev pub invariant-loop-turn : goal.invariant-loop-turn
invariant-loop-turn l = record {
  of : IsSeatOf l.fn.switch l.seat;
  same : IsSame l.fn.seat l.seat;
  idle : (known_by l.seat).stage ≡ Idle;
  parts : (known_by l.seat).parts ≡ (known_by l.fn.seat).parts;
  few : l.taken ≤ 25000;
}

use Rattle.std.proofs.Common.{◌≡◌}
use Rattle.rp_switch.specs.Seats.{known_by, IsSeatOf, IsSame}
use Rattle.rp_switch.specs.Views.{Idle}
use Rattle.rp_switch_calls.specs.Firsts.{HasTriedNothing}
use Rattle.rp_switch_calls.proofs.four_threads.begins_at_last.Given as goal

-- so far nothing was tried
abbrev pub invariant-loop : goal.invariant-loop
invariant-loop l = record {
  of : IsSeatOf l.fn.switch l.seat;
  same : IsSame l.fn.seat l.seat;
  idle : (known_by l.seat).stage ≡ Idle;
  parts : (known_by l.seat).parts ≡ (known_by l.fn.seat).parts;
  first : HasTriedNothing (known_by l.seat) l.fn.client;
}

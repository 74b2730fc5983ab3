use Rattle.std.proofs.Common.{◌≡◌, drop}
use Rattle.std.specs.List.{find}
use Rattle.rp_events.specs.Nodes.{range_numbers, seat}
use Rattle.rp_race.specs.Rounds.{first_waiting, waits}
use Rattle.rp_serving.proofs.ranges.first_waiting.Given as goal

-- it is not one of those so far
abbrev pub invariant-loop-number : goal.invariant-loop-number
invariant-loop-number g l = first_waiting l.node.node ≡ find (λ range. waits (seat l.node.node range)) (drop l.number range_numbers)

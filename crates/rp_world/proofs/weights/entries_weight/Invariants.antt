use Rattle.std.proofs.Common.{◌≡◌, take}
use Rattle.std.specs.List.{sum_by}
use Rattle.rp_lines.specs.Players.{entry_weight}
use Rattle.rp_world.specs.Weighing.{capped}
use Rattle.rp_world.proofs.weights.entries_weight.Given as goal

-- the weight so far
abbrev pub invariant-loop-entry : goal.invariant-loop-entry
invariant-loop-entry l = l.weight ≡ capped (sum_by entry_weight (take l.entry-index l.entries))

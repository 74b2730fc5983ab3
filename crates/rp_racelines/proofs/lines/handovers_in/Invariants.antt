use Rattle.std.proofs.Common.{◌≡◌, take}
use Rattle.std.specs.Prelude.{filter_map}
use Rattle.rp_racelines.specs.Rules.{handover_in}
use Rattle.rp_racelines.proofs.lines.handovers_in.Given as goal

abbrev pub invariant-loop-line : goal.invariant-loop-line
invariant-loop-line l = l.handovers.items ≡ filter_map (λ k. handover_in k.line) (take l.line-index l.lines)

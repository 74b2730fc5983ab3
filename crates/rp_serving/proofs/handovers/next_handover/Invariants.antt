use Rattle.std.proofs.Common.{◌≡◌, drop}
use Rattle.std.specs.Prelude.{slice_get, ◌==◌}
use Rattle.std.specs.List.{filter}
use Rattle.rp_race.specs.declared.rules.Handover.{Handover}
use Rattle.rp_race.specs.Rounds.{handovers_of}
use Rattle.rp_serving.proofs.handovers.next_handover.Given as goal

-- so many of the node's handovers behind this place stand before it
abbrev pub invariant-loop-handover : goal.invariant-loop-handover
invariant-loop-handover l = slice_get (handovers_of l.rules l.node) l.fn.handed ≡ slice_get (filter (λ (h : Handover). h.node == l.node) (drop l.handover-index l.rules.transfers)) l.left

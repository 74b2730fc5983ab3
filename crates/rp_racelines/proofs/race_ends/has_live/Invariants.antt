use Rattle.std.proofs.Common.{◌≡◌, ℕ, ◌<◌, false}
use Rattle.rp_events.specs.Buffered.{is_live}
use Rattle.rp_events.specs.Nodes.{seat}
use Rattle.rp_racelines.proofs.race_ends.has_live.Given as goal

-- no range so far is live
abbrev pub invariant-loop-number : goal.invariant-loop-number
invariant-loop-number g l = (range : ℕ) → range < l.number → is_live (seat l.node.node range) ≡ false

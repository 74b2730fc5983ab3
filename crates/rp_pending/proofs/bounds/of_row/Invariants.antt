use Rattle.std.proofs.Common.{ℕ, ◌+◌, ◌<◌}
use Rattle.rp_pending.specs.Bounds.{bound_at, Below}
use Rattle.rp_pending.proofs.bounds.of_row.Given as goal

-- it bounds what was seen
abbrev pub invariant-loop-place : goal.invariant-loop-place
invariant-loop-place l = (k : ℕ) → k < l.place → Below l.bound (bound_at l.narrow (l.from + k))

use Rattle.std.proofs.Common.{◌≡◌, ℕ, ◌+◌, ◌*◌, ◌<◌, ◌≤◌, length}
use Rattle.rp_pending.specs.Bounds.{bound_at, Below}
use Rattle.rp_pending.proofs.bounds.fill_wide.Given as goal

-- the rows so far are bounded
abbrev pub invariant-loop-row : goal.invariant-loop-row
invariant-loop-row l =
    (length l.wide.items ≡ length l.initial.wide.items) × (length l.wide.items * 32 ≤ length l.narrow)
    × ((m k : ℕ) → m < l.row → k < 32 → Below (bound_at l.wide.items m) (bound_at l.narrow (m * 32 + k)))

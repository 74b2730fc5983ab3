use Rattle.std.proofs.Common.{◌≡◌, ℕ, ◌+◌, ◌*◌, ◌<◌, Some, length}
use Rattle.std.specs.Prelude.{slice_get}
use Rattle.rp_pending.specs.Bounds.{bound_at, IsBelow}
use Rattle.rp_pending.specs.Slots.{Slot}
use Rattle.rp_pending.proofs.bounds.fill_narrow.Given as goal

-- the blocks so far are bounded, and none goes or comes
abbrev pub invariant-loop-block : goal.invariant-loop-block
invariant-loop-block l =
    (length l.narrow.items ≡ length l.fn.narrow.items)
    × ((k j : ℕ) (s : Slot) → k < l.block → j < 32 → slice_get l.slots.entries (k * 32 + j) ≡ Some s → IsBelow (bound_at l.narrow.items k) s.1)

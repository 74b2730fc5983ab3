use Rattle.std.proofs.Common.{◌≡◌, ℕ, ◌+◌, ◌<◌, Some}
use Rattle.std.specs.Prelude.{slice_get}
use Rattle.rp_pending.specs.Bounds.{IsBelow}
use Rattle.rp_pending.specs.Slots.{Slot}
use Rattle.rp_pending.proofs.bounds.of_block.Given as goal

-- it bounds what was seen
abbrev pub invariant-loop-place : goal.invariant-loop-place
invariant-loop-place l = (j : ℕ) (s : Slot) → j < l.place → slice_get l.slots.entries (l.from + j) ≡ Some s → IsBelow l.bound s.1

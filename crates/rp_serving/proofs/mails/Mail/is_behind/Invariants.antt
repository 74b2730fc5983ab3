use Rattle.std.proofs.Common.{ℕ, ◌≡◌, ◌+◌, ◌<◌, ◌≤◌}
use Rattle.std.specs.Prelude.{slice_get, Some}
use Rattle.rp_serving.specs.declared.lanes.Lane.{Lane}
use Rattle.rp_serving.proofs.mails.Mail.is_behind.Given as goal

-- none of the other nodes so far is behind
abbrev pub invariant-loop-place : goal.invariant-loop-place
invariant-loop-place l = (k : ℕ) (lane : Lane) → k < l.place → (k + 1 ≡ l.self.node → ⊥) → slice_get l.self.lanes k ≡ Some lane → l.rounds ≤ lane.rounds + 2

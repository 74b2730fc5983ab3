use Rattle.std.proofs.Common.{◌≡◌, ◌-◌, length, take}
use Rattle.rp_pending.specs.Bounds.{seen}
use Rattle.rp_pending.proofs.shelf.Shelf.dues.Given as goal

-- what is wanted of the slots so far
abbrev pub invariant-loop-at : goal.invariant-loop-at
invariant-loop-at l = l.dues.items ≡ seen l.wanted (take l.at l.self.entries)

abbrev pub decreases-loop-at : goal.decreases-loop-at
decreases-loop-at l = length l.self.entries - l.at

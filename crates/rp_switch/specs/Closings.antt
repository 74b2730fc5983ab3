-- What lies in the slots of a switch as it is closed (this project).
use Rattle.std.specs.Prelude.{◌≡◌, ℕ, zero, suc, ◌<◌, ◌≤◌, Bool, true, false, List, [], ◌∷◌, ◌++◌, slice_index_or}
use Rattle.rp_node.specs.Steps.{Held}
use Rattle.rp_switch.specs.declared.slots.Slot.{Slot}
use Rattle.rp_switch.specs.declared.slots.Slot.TheVariants.{Nothing, Body, Reply}

module _ {E : Type 0} where
  -- the node in a slot, where one lies there
  abbrev pub body_in : Slot E → List (Held E)
  body_in Nothing = []
  body_in (Body x) = x ∷ []
  body_in (Reply a) = []

  -- the nodes in the first slots, in order
  unfoldable pub bodies : ℕ → List (Slot E) → List (Held E)
  bodies zero slots = []
  bodies (suc k) slots = bodies k slots ++ body_in (slice_index_or slots k Nothing)

-- the slots below this place are empty, and those from it on are not
pub record IsEmptiedTo (place count : ℕ) (filled : List Bool) : Type 0 where
  pub rest : (k : ℕ) → place ≤ k → k < count → slice_index_or filled k false ≡ true
  pub gone : (k : ℕ) → k < place → slice_index_or filled k false ≡ false

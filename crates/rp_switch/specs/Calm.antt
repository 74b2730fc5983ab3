-- A seat between two calls: it has no slot, or that of a node (this project).
use Rattle.std.specs.Prelude.{ℕ, Bool, true, false, List, [], ◌∷◌}
use Rattle.rp_switch.specs.declared.slots.Slot.{Slot}
use Rattle.rp_switch.specs.declared.slots.Slot.TheVariants.{Nothing}
use Rattle.rp_switch.specs.Views.{Stage, Idle, HasNode, HasCell, Chooses}

abbrev pub is_calm : Stage → Bool
is_calm Idle = true
is_calm (HasNode place at) = true
is_calm (HasCell place) = false
is_calm (Chooses choice) = false

abbrev pub slots_at : {E : Type 0} → Stage → List (ℕ × Slot E)
slots_at Idle = []
slots_at (HasNode place at) = (place, Nothing) ∷ []
slots_at (HasCell place) = (place, Nothing) ∷ []
slots_at (Chooses choice) = []

-- A switch as it is made (this project).
use Rattle.std.specs.Prelude.{◌≡◌, ℕ, List, ◌++◌, length, map, replicate}
use Rattle.rp_events.specs.Worlds.{World, first_world}
use Rattle.rp_node.specs.Steps.{Held}
use Rattle.rp_switch.specs.declared.slots.Slot.{Slot}
use Rattle.rp_switch.specs.declared.slots.Slot.TheVariants.{Nothing, Body}

-- the nodes, and an empty cell for each client
abbrev pub first_slots : {E : Type 0} → List (Held E) → (clients : ℕ) → List (Slot E)
first_slots nodes clients = map Body nodes ++ replicate clients Nothing

-- the nodes without their buffer ends
abbrev pub bare : {E : Type 0} → List (Held E) → World
bare nodes = map (λ h. h.node) nodes

-- these are nodes as they start
abbrev pub AreFirst : {E : Type 0} → List (Held E) → Type 0
AreFirst nodes = bare nodes ≡ first_world (length nodes)

-- Several nodes, in order: the first one has the number 1.
use Rattle.std.specs.Prelude.{◌≡◌, ℕ, zero, suc, ◌-◌, Option, None, Some, List, slice_get, slice_set}
use Rattle.std.specs.Option.{option_map_or}
use Rattle.rp_base.specs.declared.items.Item.{Item}
use Rattle.rp_request.specs.Applied.{AppliedState}
use Rattle.rp_events.specs.declared.answers.EventAnswer.{EventAnswer}
use Rattle.rp_events.specs.declared.node_events.Event.{Event}
use Rattle.rp_events.specs.MaySteps.{MayStep}
use Rattle.rp_node.specs.Steps.{Held, Steps}

-- the node with this number, where there is one
abbrev pub held_at : {B : Type 0} → List (Held B) → (node : ℕ) → Option (Held B)
held_at nodes zero = None
held_at nodes (suc place) = slice_get nodes place

-- there is such a node, and it may take the event
pub record HasThatMay {B : Type 0} (nodes : List (Held B)) (node : ℕ) (e : Event AppliedState)
    : Type 0 where
  pub held : Held B
  pub has : held_at nodes node ≡ Some held
  pub may : MayStep held.node e

-- the event happens at one of the nodes, and the others stay
pub record StepsAt {B : Type 0} (gives : B → ℕ → List Item → B → Type 0)
    (old : List (Held B)) (node : ℕ) (e : Event AppliedState) (new : List (Held B))
    (answer : EventAnswer) : Type 0 where
  pub before : Held B
  pub has : held_at old node ≡ Some before
  pub after : Held B
  pub steps : Steps gives before e after answer
  pub leaves : new ≡ slice_set old (node - 1) after

-- the buffer end of one of the nodes changes
abbrev pub with_end_at : {B : Type 0} → (B → B) → List (Held B) → (node : ℕ) → List (Held B)
with_end_at change nodes node =
    option_map_or (λ h. slice_set nodes (node - 1) (record h { end = change h.end }))
    (held_at nodes node) nodes

-- what a function tells of the buffer end of one of the nodes
abbrev pub end_at : {B : Type 0} → B → List (Held B) → (node : ℕ) → B
end_at none_of_it nodes node = option_map_or (λ h. h.end) (held_at nodes node) none_of_it

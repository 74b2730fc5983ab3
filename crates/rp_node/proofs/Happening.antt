-- What happens at a node is its step.
use Rattle.std.proofs.Common.{◌≡◌, ℕ, List, [], Result, Ok, Err, IfOk, sym, subst}
use Rattle.rp_base.specs.declared.items.Item.{Item}
use Rattle.rp_base.specs.declared.memory.NoMemory.{NoMemory}
use Rattle.rp_request.specs.Applied.{AppliedState}
use Rattle.rp_events.specs.declared.answers.EventAnswer.{EventAnswer}
use Rattle.rp_events.specs.declared.node_events.Event.{Event}
use Rattle.rp_events.specs.Nodes.{Node}
use Rattle.rp_events.specs.NodeEvents.{step}
use Rattle.rp_node.specs.Plans.{answered}
use Rattle.rp_node.specs.Steps.{Held, Steps, Taken}

-- an event for which nothing is taken from the buffer end
pub quiet_step : {B : Type 0} (gives : B → ℕ → List Item → B → Type 0) (old : Held B) (e : Event AppliedState) (n : Node) (result : Result EventAnswer NoMemory) → Taken gives old e [] old.end → IfOk result (λ (answer : EventAnswer). answered n answer ≡ step old.node e []) → IfOk result (λ (answer : EventAnswer). Steps gives old e (record { node = n; end = old.end }) answer)
quiet_step gives old e n (Ok answer) gave does = record { taken = []; gave = gave; does = sym does }
quiet_step gives old e n (Err refused) gave does = tt

-- the same of what the node and the event are
pub quiet_at : {B : Type 0} (gives : B → ℕ → List Item → B → Type 0) (old now : Held B) (e f : Event AppliedState) (n : Node) (result : Result EventAnswer NoMemory) → old ≡ now → e ≡ f → Taken gives now f [] now.end → IfOk result (λ (answer : EventAnswer). answered n answer ≡ step now.node f []) → IfOk result (λ (answer : EventAnswer). Steps gives old e (record { node = n; end = now.end }) answer)
quiet_at {B} gives old now e f n result same is gave does =
    subst (λ (h : Held B). IfOk result (λ (answer : EventAnswer). Steps gives h e (record { node = n; end = now.end }) answer)) (sym same)
    (subst (λ (x : Event AppliedState). IfOk result (λ (answer : EventAnswer). Steps gives now x (record { node = n; end = now.end }) answer)) (sym is)
    (quiet_step gives now f n result gave does))

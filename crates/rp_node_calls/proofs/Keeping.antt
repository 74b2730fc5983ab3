-- An event leaves as many nodes.
use Rattle.std.proofs.Common.{◌≡◌, ℕ, ◌≤◌, List, sym, subst}
use Rattle.rp_base.specs.declared.items.Item.{Item}
use Rattle.rp_request.specs.Applied.{AppliedState}
use Rattle.rp_events.specs.declared.answers.EventAnswer.{EventAnswer}
use Rattle.rp_events.specs.declared.node_events.Event.{Event}
use Rattle.rp_events.specs.Nodes.{NodeDone}
use Rattle.rp_node.specs.Steps.{Held, Steps}
use Rattle.rp_journals.proofs.Growing.{step_grows}

-- where it happened
pub still_few : {B : Type 0} (gives : B → ℕ → List Item → B → Type 0) (old new : Held B) (e : Event AppliedState) (answer : EventAnswer)
    → Steps gives old e new answer → old.node.nodes ≤ 5 → new.node.nodes ≤ 5
still_few gives old new e answer stepped few =
    subst (λ (d : NodeDone). d.node.nodes ≤ 5) stepped.does
    (subst (λ k. k ≤ 5) (sym (step_grows old.node e stepped.taken).of) few)

-- and where there was no memory
pub as_few : {B : Type 0} (old new : Held B) → new ≡ old → old.node.nodes ≤ 5 → new.node.nodes ≤ 5
as_few {B} old new stays few = subst (λ (h : Held B). h.node.nodes ≤ 5) (sym stays) few

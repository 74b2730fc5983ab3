-- A try to admit a command, as the seat makes it.
use Rattle.std.proofs.Common.{◌≡◌, ℕ, ◌+◌, ◌-◌, ◌≤◌, Bool, true, false, [], refl, sym, ap, subst, ◌∙◌, arith, slice_get, Result, Ok, Err, IfOk, OnErr, List}
use Rattle.rp_base.specs.declared.ids.CmdId.{CmdId}
use Rattle.rp_base.specs.declared.items.Item.{Item}
use Rattle.rp_base.specs.declared.memory.NoMemory.{NoMemory}
use Rattle.rp_request.specs.Fits.{FitsId, FitsRequest}
use Rattle.rp_request.specs.declared.requests.Request.{Request}
use Rattle.rp_events.specs.declared.answers.EventAnswer.{EventAnswer}
use Rattle.rp_events.specs.declared.node_events.Event.TheVariants as events
use Rattle.rp_events.specs.MaySteps.{MayStep}
use Rattle.rp_events.specs.Nodes.{Node, NodeDone, is_full}
use Rattle.rp_events.specs.NodeEvents.{step}
use Rattle.rp_node.specs.Steps.{Held, Steps}
use Rattle.rp_switch.specs.declared.switch.Taken.{Taken}
use Rattle.rp_switch.specs.Gifts.{MayGive, IsGift}
use Rattle.rp_switch.specs.Seats.{Takes, GivesBack}
use Rattle.rp_switch.specs.Views.{Knowledge, taking}
use Rattle.rp_switch.proofs.Backing.{may_give, may_give_back}
use Rattle.rp_desks.specs.Onward.{carries, Stays, MayAsk, Admits, answer_of}
use Rattle.rp_desks.proofs.Visits.{Visit, visited, visit_stays}
use Rattle.rp_desks.proofs.Admitting.{steps_may, admission_is_gift, admitted, wanted}

module _ {E : Type 0} (gives : E → ℕ → List Item → E → Type 0) (v w : Knowledge) (client node range : ℕ) (id : CmdId) (request : Request) (t : Taken E)
    (first : 1 ≤ client) (has : carries v client ≡ true) (some : 1 ≤ node) (low : node ≤ v.terms.nodes) (taken : Takes v node (Ok t) w)
    (m : MayAsk client v node range id request) where
  -- at a full node
  pub given_back : (left : Knowledge) → GivesBack w t.number t.node.node left → Stays client v left
  given_back left gave = visit_stays v left node taken.0 t.node.node client (visited v w left node t t.node.node some low taken gave) first has

  module _ (room : is_full t.node.node ≡ false) (id_fits : FitsId id) (request_fits : FitsRequest request) where
    pub may_be_stepped : MayStep t.node.node (events.Admit range id request)
    may_be_stepped = steps_may v client taken.0 node range id request t.node.node first has taken.1 some taken.2 m room id_fits request_fits

    stepped : (after : Held E) (a : EventAnswer) → Steps gives t.node (events.Admit range id request) after a
        → step t.node.node (events.Admit range id request) [] ≡ record { node = after.node; answer = a }
    stepped after a s = ap (step t.node.node (events.Admit range id request)) (sym s.gave.nothing) ∙ s.does

    may_be_given : (after : Held E) (a : EventAnswer) → Steps gives t.node (events.Admit range id request) after a → MayGive w w.stage t.number after.node
    may_be_given after a s = may_give v w node t after.node some low taken
        (subst (λ (u : Knowledge). IsGift u (node - 1) taken.0 t.node.node after.node) (sym taken.4)
        (admission_is_gift v client taken.0 node range id request t.node.node first has taken.1 some taken.2 m room id_fits request_fits after.node
        (sym (ap (λ (d : NodeDone). d.node) (stepped after a s)))))

    -- what the node became may be given
    pub may_give_it : (after : Held E) (r : Result EventAnswer NoMemory) → IfOk r (λ a. Steps gives t.node (events.Admit range id request) after a) → OnErr r (after ≡ t.node)
        → MayGive w w.stage t.number after.node
    may_give_it after (Ok a) ok err = may_be_given after a ok
    may_give_it after (Err want) ok err = subst (λ (h : Held E). MayGive w w.stage t.number h.node) (sym err) (may_give_back v w node t some low taken)

    -- and the try is made
    pub tried : (after : Held E) (left : Knowledge) (r : Result EventAnswer NoMemory) → IfOk r (λ a. Steps gives t.node (events.Admit range id request) after a) → OnErr r (after ≡ t.node)
        → GivesBack w t.number after.node left → Admits client v node range id (answer_of r) left
    tried after left (Ok a) ok err gave =
        admitted v client taken.0 node range id request t.node.node first has taken.1 some taken.2 m room id_fits request_fits left after.node a
        (visited v w left node t after.node some low taken gave) (stepped after a ok)
    tried after left (Err want) ok err gave =
        wanted v client taken.0 node range id request t.node.node first has taken.1 some taken.2 m room id_fits request_fits left want
        (visited v w left node t t.node.node some low taken (subst (λ (h : Held E). GivesBack w t.number h.node left) err gave))

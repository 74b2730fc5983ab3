-- An event at one of several nodes.
use Rattle.std.proofs.Common.{◌≡◌, ℕ, zero, suc, ◌-◌, Option, None, Some, Result, Ok, Err, IfOk, List, [], ◌∷◌, set, get_or, slice_get, sym, ap, ◌∙◌, arith}
use Rattle.rp_base.specs.declared.items.Item.{Item}
use Rattle.rp_base.specs.declared.memory.NoMemory.{NoMemory}
use Rattle.rp_request.specs.Applied.{AppliedState}
use Rattle.rp_events.specs.declared.answers.EventAnswer.{EventAnswer}
use Rattle.rp_events.specs.declared.node_events.Event.{Event}
use Rattle.rp_node.specs.Steps.{Held, Steps}
use Rattle.rp_node.specs.Several.{StepsAt, held_at}

-- what stands at a place
get_is : {A : Type 0} (xs : List A) (i : ℕ) (x d : A) → slice_get xs i ≡ Some x → get_or xs i d ≡ x
get_is [] i x d e = absurd cc
get_is {A} (y ∷ xs) zero x d e = go x e where
  go : (x : A) → ◌≡◌ {A = Option A} (Some y) (Some x) → y ≡ x
  go x e = cc
get_is (y ∷ xs) (suc i) x d e = get_is xs i x d e

here_is : {B : Type 0} (old : List (Held B)) (node i : ℕ) (here before : Held B) → held_at old node ≡ Some before → i ≡ node - 1 → here ≡ get_or old i here → held_at old node ≡ Some here
here_is {B} old zero i here before has at is = absurd (nothing has) where
  nothing : ◌≡◌ {A = Option (Held B)} None (Some before) → ⊥
  nothing e = cc
here_is old (suc place) i here before has at is =
    let j : i ≡ place = at ∙ omega arith in
    has ∙ ap Some (sym (is ∙ ap (λ k. get_or old k here) j ∙ get_is old place before here has))

-- the one that takes the event is one of them
pub step_at : {B : Type 0} (gives : B → ℕ → List Item → B → Type 0) (old : List (Held B)) (node i : ℕ) (here before after : Held B) (e : Event AppliedState) (r : Result EventAnswer NoMemory)
    → held_at old node ≡ Some before → i ≡ node - 1 → here ≡ get_or old i here → IfOk r (λ answer. Steps gives here e after answer)
    → IfOk r (λ answer. StepsAt gives old node e (set old i after) answer)
step_at gives old node i here before after e (Ok answer) has at is steps = record {
  before = here;
  has = here_is old node i here before has at is;
  after = after;
  steps = steps;
  leaves = ap (λ k. set old k after) at;
}
step_at gives old node i here before after e (Err no_memory) has at is steps = tt

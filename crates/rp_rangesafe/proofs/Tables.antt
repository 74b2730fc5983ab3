-- A table of attempts, or of what nodes have, that is changed.
use Rattle.std.proofs.Common.{◌≡◌, ℕ, eqb, refl, sym, subst, eqb-true}
use Rattle.std.proofs.lemmas.Bool.{cond_both, eqb-false}
use Rattle.rp_base.specs.Ids.{same_id}
use Rattle.rp_base.specs.declared.ids.CmdId.{CmdId}
use Rattle.rp_base.proofs.IdLaws.{same_is, not_same_apart}
use Rattle.rp_rangesafe.specs.Attempts.{Stage, Attempt, Attempts, with_attempt, at_node, staged}
use Rattle.rp_rangesafe.specs.World.{with_node}

-- what holds of the changed attempt and of each other one
pub at_attempt : (P : CmdId → Attempt → Type 0) (f : Attempts) (id : CmdId) (a : Attempt) → P id a
    → ((q : CmdId) → (q ≡ id → ⊥) → P q (f q)) → (q : CmdId) → P q (with_attempt f id a q)
unfolding with_attempt
at_attempt P f id a h k q = cond_both (same_id q id) a (f q) (P q) (λ e. subst (λ x. P x a) (sym (same_is q id e)) h) (λ e. k q (not_same_apart q id e))

pub at_same : (f : Attempts) (id : CmdId) (a : Attempt) → with_attempt f id a id ≡ a
at_same f id a = at_attempt (λ q x. q ≡ id → x ≡ a) f id a (λ _. refl) (λ q ne e. absurd (ne e)) id refl

pub at_other : (f : Attempts) (id : CmdId) (a : Attempt) (q : CmdId) → (q ≡ id → ⊥) → with_attempt f id a q ≡ f q
at_other f id a q ne = at_attempt (λ r x. (r ≡ id → ⊥) → x ≡ f r) f id a (λ n. absurd (n refl)) (λ r n _. refl) q ne

-- what holds of the attempts of a node and of those of the others
pub at_nodes : (P : CmdId → Attempt → Type 0) (node : ℕ) (g : Stage → Stage) (f : Attempts)
    → ((q : CmdId) → (f q).node ≡ node → P q (staged (f q) (g (f q).stage)))
    → ((q : CmdId) → ((f q).node ≡ node → ⊥) → P q (f q)) → (q : CmdId) → P q (at_node node g f q)
unfolding at_node
at_nodes P node g f h k q = cond_both (eqb (f q).node node) (staged (f q) (g (f q).stage)) (f q) (P q)
    (λ e. h q (eqb-true _ _ e)) (λ e. k q (eqb-false _ _ e))

pub node_same : {A : Type 0} (f : ℕ → A) (node : ℕ) (v : A) → with_node f node v node ≡ v
unfolding with_node
node_same f node v = cond_both (eqb node node) v (f node) (λ x. x ≡ v) (λ _. refl) (λ e. absurd (eqb-false node node e refl))

pub node_other : {A : Type 0} (f : ℕ → A) (node : ℕ) (v : A) (q : ℕ) → (q ≡ node → ⊥) → with_node f node v q ≡ f q
unfolding with_node
node_other f node v q ne = cond_both (eqb q node) v (f q) (λ x. x ≡ f q) (λ e. absurd (ne (eqb-true _ _ e))) (λ _. refl)

-- what holds of the changed value and of each other one
pub at_with_node : {A : Type 0} (P : ℕ → A → Type 0) (f : ℕ → A) (node : ℕ) (v : A) → P node v
    → ((q : ℕ) → (q ≡ node → ⊥) → P q (f q)) → (q : ℕ) → P q (with_node f node v q)
unfolding with_node
at_with_node P f node v h k q = cond_both (eqb q node) v (f q) (P q) (λ e. subst (λ x. P x v) (sym (eqb-true _ _ e)) h) (λ e. k q (eqb-false _ _ e))

-- The list of the other nodes grows by a node.
use Rattle.std.proofs.Common.{◌≡◌, ℕ, suc, ◌+◌, Bool, List, [], ◌∷◌, ◌++◌, map, ap, ◌∙◌, sym, add-one, append_assoc}
use Rattle.std.specs.Prelude.{filter}
use Rattle.std.proofs.lemmas.List.{map-append}
use Rattle.std.proofs.lemmas.List.Elements.{filter-append}
use Rattle.rp_raftstep.specs.RaftState.{nodes_to}

-- one node more
pub filter_more : (test : ℕ → Bool) (n : ℕ) → filter test (nodes_to (n + 1)) ≡ filter test (nodes_to n) ++ filter test ((n + 1) ∷ [])
filter_more test n =
    ap (λ k. filter test (nodes_to k)) (add-one n) ∙ filter-append test (nodes_to n) (suc n ∷ []) ∙ ap (λ k. filter test (nodes_to n) ++ filter test (k ∷ [])) (sym (add-one n))

-- what is made for a node more comes behind
pub made_more : {B : Type 0} (f : ℕ → B) (test : ℕ → Bool) (n : ℕ) (old now next : List B)
    → now ≡ old ++ map f (filter test (nodes_to n)) → next ≡ now ++ map f (filter test ((n + 1) ∷ []))
    → next ≡ old ++ map f (filter test (nodes_to (n + 1)))
made_more f test n old now next was is =
    is ∙ ap (λ l. l ++ map f (filter test ((n + 1) ∷ []))) was
    ∙ append_assoc old (map f (filter test (nodes_to n))) (map f (filter test ((n + 1) ∷ [])))
    ∙ ap (λ l. old ++ l) (sym (ap (map f) (filter_more test n) ∙ map-append f (filter test (nodes_to n)) (filter test ((n + 1) ∷ []))))

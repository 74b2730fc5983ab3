-- What it makes of a list to put entries over it.
use Rattle.std.proofs.Common.{◌≡◌, ℕ, suc, ◌+◌, ◌==◌, ◌<◌, ◌≤◌, ◌⊎◌, inl, inr, Bool, true, false, true≢false, cond, List, [], ◌∷◌, ◌++◌, length, take, drop, get_or, refl, sym, ap, ap₂, subst, ◌∙◌, arith, append-nil, eq-eqb, eqb-true}
use Rattle.std.proofs.Math.Seq.{take-length}
use Rattle.std.proofs.lemmas.Bool.{ne_eqb}
use Rattle.std.proofs.lemmas.List.{drop_all, drop_more}
use Rattle.rp_raftlog.specs.declared.entries.Entry.{Entry}
use Rattle.rp_raftlog.specs.LogState.{edited, overlay, same_terms}

same_more : (x y : Entry) (xs ys : List Entry) (b : Bool) → (x.term == y.term) ≡ b → same_terms xs ys ≤ length xs → same_terms (x ∷ xs) (y ∷ ys) ≤ length (x ∷ xs)
same_more x y xs ys true e h = simp e (omega arith)
same_more x y xs ys false e h = simp e (omega arith)

pub same_terms-le-length : (xs ys : List Entry) → same_terms xs ys ≤ length xs
same_terms-le-length [] ys = omega arith
same_terms-le-length (x ∷ xs) [] = omega arith
same_terms-le-length (x ∷ xs) (y ∷ ys) = same_more x y xs ys _ refl (same_terms-le-length xs ys)

same_by : (x y : Entry) (xs ys : List Entry) (b : Bool) → (y.term == x.term) ≡ b → same_terms (x ∷ xs) (y ∷ ys) ≡ cond b (suc (same_terms xs ys)) 0
same_by x y xs ys true e =
    let f : (x.term == y.term) ≡ true = eq-eqb _ _ (sym (eqb-true _ _ e)) in
    ap (λ b. cond b (suc (same_terms xs ys)) 0) f
same_by x y xs ys false e =
    let f : (x.term == y.term) ≡ false = ne_eqb _ _ (λ same. true≢false (sym (eq-eqb _ _ (sym same)) ∙ e)) in
    ap (λ b. cond b (suc (same_terms xs ys)) 0) f

same_nil : (xs : List Entry) → same_terms xs [] ≡ 0
same_nil [] = refl
same_nil (x ∷ xs) = refl

-- the terms of the entries at one place decide how it goes on
pub same_step : (news es : List Entry) (place i : ℕ) (x y : Entry) → i < length news → place + i < length es → x ≡ get_or news i x → y ≡ get_or es (place + i) y
    → same_terms (drop i news) (drop (place + i) es) ≡ cond (y.term == x.term) (suc (same_terms (drop (i + 1) news) (drop (place + (i + 1)) es))) 0
same_step news es place i x y a b ex ey =
    let e : place + i + 1 ≡ place + (i + 1) = omega arith in
    ap₂ same_terms (drop_more news i x a ∙ ap (λ z. z ∷ drop (i + 1) news) (sym ex))
    (drop_more es (place + i) y b ∙ ap (λ z. z ∷ drop (place + i + 1) es) (sym ey) ∙ ap (λ n. y ∷ drop n es) e)
    ∙ same_by x y (drop (i + 1) news) (drop (place + (i + 1)) es) _ refl

-- where one list ends, nothing more is the same
pub same_end : (news es : List Entry) (i j : ℕ) → ((length news ≤ i) ⊎ (length es ≤ j)) → same_terms (drop i news) (drop j es) ≡ 0
same_end news es i j (inl h) = ap (λ l. same_terms l (drop j es)) (drop_all i news h)
same_end news es i j (inr h) = ap (same_terms (drop i news)) (drop_all j es h) ∙ same_nil (drop i news)

-- what entries put over a list leave, by whether all of them stand there
put_by : (es news : List Entry) (place same : ℕ) (b : Bool) → (same == length news) ≡ b
    → edited es (cond (same == length news) (record { keep = length es; added = [] }) (record { keep = place + same; added = drop same news }))
    ≡ cond b (take (length es) es ++ []) (take (place + same) es ++ drop same news)
put_by es news place same true e = simp e
put_by es news place same false e = simp e

-- the first that differs in term cuts the list there
pub cuts : (es news : List Entry) (place same : ℕ) → same ≡ same_terms news (drop place es) → same < length news
    → edited es (overlay es place news) ≡ take (place + same) es ++ drop same news
cuts es news place same e less =
    subst (λ n. edited es (cond (n == length news) (record { keep = length es; added = [] }) (record { keep = place + n; added = drop n news })) ≡ take (place + same) es ++ drop same news)
    e (put_by es news place same false (ne_eqb same (length news) (λ all. omega arith)))

-- nothing differs: the list stays
pub keeps : (es news : List Entry) (place same : ℕ) → same ≡ same_terms news (drop place es) → length news ≤ same
    → edited es (overlay es place news) ≡ es
keeps es news place same e most =
    let few = same_terms-le-length news (drop place es) in
    let all : same ≡ length news = omega arith in
    subst (λ n. edited es (cond (n == length news) (record { keep = length es; added = [] }) (record { keep = place + n; added = drop n news })) ≡ es)
    e (put_by es news place same true (eq-eqb _ _ all) ∙ append-nil _ ∙ take-length es)

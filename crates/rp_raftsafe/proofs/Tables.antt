-- A function, or a table, that is changed at one place.
use Rattle.std.proofs.Common.{◌≡◌, ℕ, cond, ◌&&◌, eqb, List, length, get_or, set, refl, sym, subst, eqb-true, get_or-set_same, get_or-set_other, ⊎_elim}
use Rattle.std.proofs.lemmas.Bool.{cond_both, eqb-false, and_parts, and_cases, cases_eq, cases_lt}
use Rattle.std.proofs.lemmas.List.{set_past}

-- f, but v at p
pub upd : {A : Type 0} → (ℕ → A) → ℕ → A → ℕ → A
upd f p v q = cond (eqb q p) v (f q)

-- f, but v at p and t
pub upd2 : {A : Type 0} → (ℕ → ℕ → A) → ℕ → ℕ → A → ℕ → ℕ → A
upd2 f p t v q s = cond (eqb q p && eqb s t) v (f q s)

pub at_upd : {A : Type 0} (P : A → Type 0) (f : ℕ → A) (p : ℕ) (v : A) (q : ℕ) → (q ≡ p → P v) → ((q ≡ p → ⊥) → P (f q)) → P (upd f p v q)
unfolding upd
at_upd P f p v q hit old = cond_both (eqb q p) v (f q) P (λ e. hit (eqb-true q p e)) (λ e. old (eqb-false q p e))

pub at_upd2 : {A : Type 0} (P : A → Type 0) (f : ℕ → ℕ → A) (p t : ℕ) (v : A) (q s : ℕ) → (q ≡ p → s ≡ t → P v) → ((q ≡ p → s ≡ t → ⊥) → P (f q s)) → P (upd2 f p t v q s)
unfolding upd2
at_upd2 P f p t v q s hit old =
    cond_both (eqb q p && eqb s t) v (f q s) P
    (λ e. hit (eqb-true q p (and_parts (eqb q p) (eqb s t) e).0) (eqb-true s t (and_parts (eqb q p) (eqb s t) e).1))
    (λ e. old (λ eq es. ⊎_elim (λ no. eqb-false q p no eq) (λ no. eqb-false s t no es) (and_cases (eqb q p) (eqb s t) e)))

pub upd_same : {A : Type 0} (f : ℕ → A) (p : ℕ) (v : A) → upd f p v p ≡ v
upd_same f p v = at_upd (λ x. x ≡ v) f p v p (λ _. refl) (λ ne. absurd (ne refl))

pub upd2_same : {A : Type 0} (f : ℕ → ℕ → A) (p t : ℕ) (v : A) → upd2 f p t v p t ≡ v
upd2_same f p t v = at_upd2 (λ x. x ≡ v) f p t v p t (λ _ _. refl) (λ ne. absurd (ne refl refl))

-- what a list has at a place after one place was written
pub at_set : {A : Type 0} (P : A → Type 0) (xs : List A) (i : ℕ) (v : A) (k : ℕ) (d : A) → (k ≡ i → P v) → P (get_or xs k d) → P (get_or (set xs i v) k d)
at_set P xs i v k d hit old =
    ⊎_elim
    (λ same.
    ⊎_elim
    (λ within. subst (λ z. P (get_or (set xs i v) z d)) (sym same) (subst P (sym (get_or-set_same xs i v d within)) (hit same)))
    (λ past. subst (λ z. P (get_or z k d)) (sym (set_past xs i v past)) old)
    (cases_lt i (length xs)))
    (λ ne. subst P (sym (get_or-set_other xs i k v d ne)) old)
    (cases_eq k i)

-- Functions that change at one number, and sums over the places.
use Rattle.std.proofs.Common.{◌≡◌, ◌≢◌, ℕ, zero, suc, ◌+◌, ◌*◌, ◌/◌, ◌%◌, ◌<◌, ◌≤◌, cond, eqb, eq-eqb, ne_eqb, refl, ap, sym, ◌∙◌, arith, subst}
use mathlib.Core.Logic.{dite}
use native.Mathlib.Decide.{ℕ_discrete}
use Rattle.rp_buffer.specs.Hands.{Put}
use Rattle.rp_buffer.specs.Slots.{Phase, lies, left_in}

module _ {A : Type 0} where
  abbrev pub put : (ℕ → A) → ℕ → A → ℕ → A
  put f k x q = cond (eqb q k) x (f q)

  pub put_here : (f : ℕ → A) (k q : ℕ) (x : A) → q ≡ k → put f k x q ≡ x
  put_here f k q x e = ap (λ b. cond b x (f q)) (eq-eqb q k e)

  pub put_else : (f : ℕ → A) (k q : ℕ) (x : A) → q ≢ k → put f k x q ≡ f q
  put_else f k q x n = ap (λ b. cond b x (f q)) (ne_eqb q k n)

  -- what holds of the new value at its number, and of each other value at its own, holds of each
  pub at_put : (P : ℕ → A → Type 0) (f : ℕ → A) (k : ℕ) (x : A) (q : ℕ) → (q ≡ k → P q x) → (q ≢ k → P q (f q)) → P q (put f k x q)
  at_put P f k x q here away = dite (ℕ_discrete q k)
      (λ e. subst (λ (y : A). P q y) (sym (put_here f k q x e)) (here e))
      (λ n. subst (λ (y : A). P q y) (sym (put_else f k q x n)) (away n))

-- the same places lie the same
pub left_same : (m : ℕ) (f g : ℕ → Phase) (h : Put → ℕ) → ((k : ℕ) → k < m → f k ≡ g k) → left_in m f h ≡ left_in m g h
unfolding left_in
left_same zero f g h same = refl
left_same (suc m) f g h same =
    let below = left_same m f g h (λ k less. same k (omega (arith, less))) in
    let here : lies h m (f m) ≡ lies h m (g m) = ap (lies h m) (same m (omega arith)) in
    let a : left_in (suc m) f h ≡ left_in m f h + lies h m (f m) = refl in
    let b : left_in (suc m) g h ≡ left_in m g h + lies h m (g m) = refl in
    omega (arith, below, here, a, b)

-- one place changes
pub left_set : (m k : ℕ) (f : ℕ → Phase) (p : Phase) (h : Put → ℕ) → k < m → left_in m (put f k p) h + lies h k (f k) ≡ left_in m f h + lies h k p
unfolding left_in
left_set zero k f p h less = absurd (omega (arith, less))
left_set (suc m) k f p h less =
    let a : left_in (suc m) f h ≡ left_in m f h + lies h m (f m) = refl in
    let b : left_in (suc m) (put f k p) h ≡ left_in m (put f k p) h + lies h m (put f k p m) = refl in
    dite (ℕ_discrete m k)
    (λ e. let below = left_same m (put f k p) f h (λ q low. put_else f k q p (λ is. omega (arith, is, low, e))) in
    let here : lies h m (put f k p m) ≡ lies h m p = ap (lies h m) (put_here f k m p e) in
    let was : lies h m (f m) ≡ lies h k (f k) = ap (λ q. lies h q (f q)) e in
    let is : lies h m p ≡ lies h k p = ap (λ q. lies h q p) e in
    omega (arith, below, here, was, is, a, b))
    (λ n. let below = left_set m k f p h (omega (arith, less, n)) in
    let here : lies h m (put f k p m) ≡ lies h m (f m) = ap (lies h m) (put_else f k m p n) in
    omega (arith, below, here, a, b))

-- nothing lies in places none of which is published
pub left_none : (m : ℕ) (f : ℕ → Phase) (h : Put → ℕ) → ((k : ℕ) → k < m → lies h k (f k) ≡ 0) → left_in m f h ≡ 0
unfolding left_in
left_none zero f h none_there = refl
left_none (suc m) f h none_there =
    let below = left_none m f h (λ k less. none_there k (omega (arith, less))) in
    let here = none_there m (omega arith) in
    let a : left_in (suc m) f h ≡ left_in m f h + lies h m (f m) = refl in
    omega (arith, below, here, a)

-- places that lie alike
pub left_alike : (m : ℕ) (f g : ℕ → Phase) (h : Put → ℕ) → ((k : ℕ) → k < m → lies h k (f k) ≡ lies h k (g k)) → left_in m f h ≡ left_in m g h
unfolding left_in
left_alike zero f g h alike = refl
left_alike (suc m) f g h alike =
    let below = left_alike m f g h (λ k less. alike k (omega (arith, less))) in
    let here = alike m (omega arith) in
    let a : left_in (suc m) f h ≡ left_in m f h + lies h m (f m) = refl in
    let b : left_in (suc m) g h ≡ left_in m g h + lies h m (g m) = refl in
    omega (arith, below, here, a, b)

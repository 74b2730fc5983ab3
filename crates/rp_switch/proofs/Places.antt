-- Functions that change at one number.
use Rattle.std.proofs.Common.{◌≡◌, ◌≢◌, ℕ, cond, eqb, eq-eqb, ne_eqb, ap, sym, subst}
use mathlib.Core.Logic.{dite}
use native.Mathlib.Decide.{ℕ_discrete}

module _ {A : Type 0} where
  abbrev pub put : (ℕ → A) → ℕ → A → ℕ → A
  put f k x q = cond (eqb q k) x (f q)

  pub put_here : (f : ℕ → A) (k q : ℕ) (x : A) → q ≡ k → put f k x q ≡ x
  put_here f k q x e = ap (λ b. cond b x (f q)) (eq-eqb q k e)

  pub put_else : (f : ℕ → A) (k q : ℕ) (x : A) → q ≢ k → put f k x q ≡ f q
  put_else f k q x n = ap (λ b. cond b x (f q)) (ne_eqb q k n)

  -- what holds of the new value at its number, and of each other value at its own, holds of each
  pub at_put : (P : ℕ → A → Type 0) (f : ℕ → A) (k : ℕ) (x : A) (q : ℕ) → (q ≡ k → P q x) → (q ≢ k → P q (f q)) → P q (put f k x q)
  at_put P f k x q here away = dite (ℕ_discrete q k)
      (λ e. subst (λ (y : A). P q y) (sym (put_here f k q x e)) (here e))
      (λ n. subst (λ (y : A). P q y) (sym (put_else f k q x n)) (away n))

-- Sums over the views of a table's passes, and what holds of each of them.
use Rattle.std.proofs.Common.{◌≡◌, ◌≢◌, ◌⊎◌, ℕ, zero, suc, ◌+◌, ◌<◌, ◌≤◌, List, [], ◌∷◌, ◌++◌, length, set, sum_by, refl, ap, sym, ◌∙◌, inl, inr, ⊎_elim, arith, subst}
use Rattle.std.proofs.lemmas.List.Sums.{sum_by-cons, sum_by_push}
use mathlib.Core.Option.{some, some-injective, some-ne-none}
use lib.ListN.{get_elem?}
use Rattle.atomic_table.proofs.Lists.{at_set, at_snoc}

module _ {V : Type 0} where
  -- the sum after a change of one view
  pub total_set : (f : V → ℕ) (l : List V) (i : ℕ) (v w : V) → get_elem? l i ≡ some v → sum_by f (set l i w) + f v ≡ sum_by f l + f w
  total_set f [] i v w e = absurd (some-ne-none v (sym e))
  total_set f (x ∷ xs) zero v w e = let same : f x ≡ f v = ap f (some-injective x v e) in omega (arith, sum_by-cons f x xs, sum_by-cons f w xs, same)
  total_set f (x ∷ xs) (suc i) v w e = let later = total_set f xs i v w e in omega (arith, sum_by-cons f x xs, sum_by-cons f x (set xs i w), later)

  -- one view is no more than the sum
  pub part_le : (f : V → ℕ) (l : List V) (i : ℕ) (v : V) → get_elem? l i ≡ some v → f v ≤ sum_by f l
  part_le f [] i v e = absurd (some-ne-none v (sym e))
  part_le f (x ∷ xs) zero v e = let same : f x ≡ f v = ap f (some-injective x v e) in omega (arith, sum_by-cons f x xs, same)
  part_le f (x ∷ xs) (suc i) v e = let later = part_le f xs i v e in omega (arith, sum_by-cons f x xs, later)

  -- nor are two together
  pub pair_le : (f : V → ℕ) (l : List V) (i j : ℕ) (v u : V) → j ≢ i → get_elem? l i ≡ some v → get_elem? l j ≡ some u → f v + f u ≤ sum_by f l
  pair_le f [] i j v u n e d = absurd (some-ne-none v (sym e))
  pair_le f (x ∷ xs) zero zero v u n e d = absurd (n refl)
  pair_le f (x ∷ xs) zero (suc j) v u n e d = let same : f x ≡ f v = ap f (some-injective x v e) in let later = part_le f xs j u d in omega (arith, sum_by-cons f x xs, same, later)
  pair_le f (x ∷ xs) (suc i) zero v u n e d = let same : f x ≡ f u = ap f (some-injective x u d) in let later = part_le f xs i v e in omega (arith, sum_by-cons f x xs, same, later)
  pair_le f (x ∷ xs) (suc i) (suc j) v u n e d = let later = pair_le f xs i j v u (λ h. n (ap suc h)) e d in omega (arith, sum_by-cons f x xs, later)

  -- a sum of nothing
  pub none_weigh : (f : V → ℕ) (l : List V) → ((j : ℕ) (u : V) → get_elem? l j ≡ some u → f u ≡ 0) → sum_by f l ≡ 0
  none_weigh f [] nothing = refl
  none_weigh f (x ∷ xs) nothing = let here : f x ≡ 0 = nothing 0 x refl in let later = none_weigh f xs (λ j u e. nothing (suc j) u e) in omega (arith, sum_by-cons f x xs, here, later)

  -- where the others weigh nothing, one view is the sum
  pub only_weighs : (f : V → ℕ) (l : List V) (i : ℕ) (v : V) → get_elem? l i ≡ some v → ((j : ℕ) (u : V) → j ≢ i → get_elem? l j ≡ some u → f u ≡ 0) → sum_by f l ≡ f v
  only_weighs f [] i v e others = absurd (some-ne-none v (sym e))
  only_weighs f (x ∷ xs) zero v e others = let same : f x ≡ f v = ap f (some-injective x v e) in let later = none_weigh f xs (λ j u d. others (suc j) u (λ h. omega arith) d) in omega (arith, sum_by-cons f x xs, same, later)
  only_weighs f (x ∷ xs) (suc i) v e others = let here : f x ≡ 0 = others 0 x (λ h. omega arith) refl in
      let later = only_weighs f xs i v e (λ j u n d. others (suc j) u (λ h. n (omega arith)) d) in omega (arith, sum_by-cons f x xs, here, later)

  -- the view that has all parts is the only one that has any
  pub no_part : (parts : V → ℕ) (l : List V) (i j : ℕ) (v u : V) → j ≢ i → get_elem? l i ≡ some v → get_elem? l j ≡ some u → sum_by parts l ≡ parts v → parts u ≡ 0
  no_part parts l i j v u n e d whole = let both = pair_le parts l i j v u n e d in omega (arith, both, whole)

  -- so where a view without parts weighs nothing, it is the sum
  pub alone : (f parts : V → ℕ) (l : List V) (i : ℕ) (v : V) → get_elem? l i ≡ some v → sum_by parts l ≡ parts v → ((j : ℕ) (u : V) → get_elem? l j ≡ some u → parts u ≡ 0 → f u ≡ 0) → sum_by f l ≡ f v
  alone f parts l i v e whole idle = only_weighs f l i v e (λ j u n d. idle j u d (no_part parts l i j v u n e d whole))

  -- what holds of the changed view and of each other one holds of each after the change
  pub each_set : (P : ℕ → V → Type 0) (l : List V) (i : ℕ) (w : V) → P i w → ((j : ℕ) (u : V) → j ≢ i → get_elem? l j ≡ some u → P j u)
      → (j : ℕ) (u : V) → get_elem? (set l i w) j ≡ some u → P j u
  each_set P l i w here others j u e = ⊎_elim
      (λ t. subst (λ (x : V). P j x) t.1 (subst (λ (k : ℕ). P k w) (sym t.0) here))
      (λ t. others j u t.0 t.1)
      (at_set l i j w u e)

  -- a new view has a number of its own
  pub at_end : (l : List V) (a b : V) (j : ℕ) → get_elem? (l ++ a ∷ []) j ≡ some b → get_elem? l j ≡ some b ⊎ ((j ≡ length l) × (a ≡ b))
  at_end [] a b zero e = inr (refl, some-injective a b e)
  at_end [] a b (suc j) e = absurd (some-ne-none b (sym e))
  at_end (x ∷ xs) a b zero e = inl e
  at_end (x ∷ xs) a b (suc j) e = ⊎_elim (λ t. inl t) (λ t. inr (ap suc t.0, t.1)) (at_end xs a b j e)

  -- what holds of each view and of a new one holds of each after it came
  pub each_snoc : (P : ℕ → V → Type 0) (l : List V) (w : V) → P (length l) w → ((j : ℕ) (u : V) → get_elem? l j ≡ some u → P j u)
      → (j : ℕ) (u : V) → get_elem? (l ++ w ∷ []) j ≡ some u → P j u
  each_snoc P l w here others j u e = ⊎_elim
      (λ t. others j u t)
      (λ t. subst (λ (x : V). P j x) t.1 (subst (λ (k : ℕ). P k w) (sym t.0) here))
      (at_end l w u j e)

-- Sums along a list, as far as they can be counted.
use Rattle.std.proofs.Common.{◌≡◌, ℕ, ◌+◌, ◌<◌, ◌≤◌, min, List, [], ◌∷◌, ◌++◌, length, take, get_or, refl, sym, ap, ◌∙◌, arith}
use Rattle.std.specs.List.{fold, sum_by}
use Rattle.std.proofs.lemmas.List.{take_more}

fold_push : {X A : Type 0} (g : A → X → A) (a : A) (xs : List X) (y : X) → fold g a (xs ++ y ∷ []) ≡ g (fold g a xs) y
fold_push g a [] y = refl
fold_push g a (x ∷ xs) y = fold_push g (g a x) xs y

pub sum_push : {X : Type 0} (f : X → ℕ) (xs : List X) (y : X) → sum_by f (xs ++ y ∷ []) ≡ sum_by f xs + f y
sum_push f xs y = fold_push (λ a x. a + f x) 0 xs y

-- one more of a list
pub sum_more : {X : Type 0} (f : X → ℕ) (xs : List X) (i : ℕ) (x : X) → i < length xs → x ≡ get_or xs i x
    → sum_by f (take (i + 1) xs) ≡ sum_by f (take i xs) + f x
sum_more f xs i x h is =
    ap (sum_by f) (take_more xs i x h) ∙ sum_push f (take i xs) (get_or xs i x) ∙ ap (λ y. sum_by f (take i xs) + f y) (sym is)

pub capped_sum : (most a b : ℕ) → min (min a most + min b most) most ≡ min (a + b) most
capped_sum most a b = omega arith

pub capped_more : (most a b : ℕ) → min (min a most + b) most ≡ min (a + b) most
capped_more most a b = omega arith

-- a capped sum goes on by one
pub load_more : {X : Type 0} (most : ℕ) (f : X → ℕ) (xs : List X) (i : ℕ) (x : X) (so_far more : ℕ) → i < length xs → x ≡ get_or xs i x
    → so_far ≡ min (sum_by f (take i xs)) most → min more most ≡ min (f x) most → min (so_far + more) most ≡ min (sum_by f (take (i + 1) xs)) most
load_more most f xs i x so_far more h is was weighs =
    ap (λ s. min (s + more) most) was ∙ capped_more most (sum_by f (take i xs)) more
    ∙ sym (capped_sum most (sum_by f (take i xs)) more)
    ∙ ap (λ m. min (min (sum_by f (take i xs)) most + m) most) weighs
    ∙ capped_sum most (sum_by f (take i xs)) (f x)
    ∙ ap (λ n. min n most) (sym (sum_more f xs i x h is))

-- what is small enough is counted whole
pub small_capped : (n m : ℕ) → n ≡ m → n ≤ 18446744073709551615 → n ≡ min m 18446744073709551615
small_capped n m e h = omega (arith, e)

-- Elements of lists: reading them, and where a part of a list begins or an item is put.
use Rattle.std.proofs.Common.{◌≡◌, ℕ, zero, suc, ◌<◌, ◌≤◌, Bool, true, false, ◌||◌, ◌&&◌, List, [], ◌∷◌, length, get_or, refl, ap, subst, ◌∙◌, arith}
use Rattle.std.proofs.lemmas.List.Elements.{All-cons}
use Rattle.std.proofs.lemmas.List.Kept.{AllPairs-cons}
use Rattle.std.proofs.lemmas.List.Sorted.{IsPermutation-insert, All-permutation}
use Rattle.std.specs.List.{All, AllPairs, AllWithin, insert}
use Rattle.std.specs.List.Sorted.{IsPartitionPoint}

pub or_false : (b : Bool) → (b || false) ≡ b
or_false true = refl
or_false false = refl

pub left_false : (a b : Bool) → (a || b) ≡ false → a ≡ false
left_false true b h = h
left_false false b h = refl

pub right_false : (a b : Bool) → (a || b) ≡ false → b ≡ false
right_false true b h = absurd cc
right_false false b h = h

pub left_true : (a b : Bool) → (a && b) ≡ true → a ≡ true
left_true true b h = refl
left_true false b h = h

pub right_true : (a b : Bool) → (a && b) ≡ true → b ≡ true
right_true true b h = h
right_true false b h = absurd cc

pub both_true : (a b : Bool) → a ≡ true → b ≡ true → (a && b) ≡ true
both_true a b h k = ap (λ x. x && b) h ∙ k

pub same_read : {X : Type 0} (xs : List X) (k : ℕ) (d e : X) → k < length xs → get_or xs k d ≡ get_or xs k e
same_read [] k d e l = absurd (omega arith)
same_read (x ∷ xs) zero d e l = refl
same_read (x ∷ xs) (suc k) d e l = same_read xs k d e (omega arith)

-- a partition point by a test
module _ {X : Type 0} (q : X → Bool) (P : X → Type 0) (xs ys : List X) (n : ℕ) (same : xs ≡ ys) where
  pub point_before : ((x : X) → q x ≡ true → P x) → IsPartitionPoint (λ y. q y ≡ true) (λ y. q y ≡ false) xs n → AllWithin P ys 0 n
  point_before h p = subst (λ (zs : List X). AllWithin P zs 0 n) same (λ k d l m. h (get_or xs k d) (p.0 k d l m))

  pub point_after : ((x : X) → q x ≡ false → P x) → IsPartitionPoint (λ y. q y ≡ true) (λ y. q y ≡ false) xs n → AllWithin P ys n (length ys)
  point_after h p = subst (λ (zs : List X). AllWithin P zs n (length zs)) same (λ k d l m. h (get_or xs k d) (p.1 k d l m))

All-insert : {X : Type 0} (P : X → Type 0) (xs : List X) (n : ℕ) (y : X) → P y → All P xs → All P (insert xs n y)
All-insert P xs n y h k = All-permutation P (y ∷ xs) (insert xs n y) (IsPermutation-insert xs n y) (All-cons P y xs h k)

-- what is put between those before it and those behind it is in order
pub pairs_insert : {X : Type 0} (R : X → X → Type 0) (xs : List X) (n : ℕ) (y : X) → n ≤ length xs → AllPairs R xs
    → AllWithin (λ x. R x y) xs 0 n → AllWithin (λ x. R y x) xs n (length xs) → AllPairs R (insert xs n y)
pairs_insert R xs zero y w h b a = AllPairs-cons R y xs (λ k d l. a k d (omega arith) l) h
pairs_insert R [] (suc n) y w h b a = absurd (omega arith)
pairs_insert R (x ∷ xs) (suc n) y w h b a =
    AllPairs-cons R x (insert xs n y)
    (All-insert (R x) xs n y (b 0 x (omega arith) (omega arith)) (λ k d l. h 0 (suc k) d (omega arith) (omega arith)))
    (pairs_insert R xs n y (omega arith) (λ i j d l m. h (suc i) (suc j) d (omega arith) (omega arith))
    (λ k d l m. b (suc k) d (omega arith) (omega arith)) (λ k d l m. a (suc k) d (omega arith) (omega arith)))

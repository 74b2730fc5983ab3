-- Holds in the order of their numbers: where a number stands.
use Rattle.std.proofs.Common.{◌≡◌, ℕ, ◌<◌, ◌≤◌, Bool, true, false, ◌&&◌, ◌==◌, nat_lt, List, length, get_or, refl, ap, subst, ◌∙◌, arith}
use Rattle.std.proofs.lemmas.Bool.Decides.{nat_tests}
use Rattle.std.proofs.lemmas.List.Folds.{Any-from_list_any}
use Rattle.std.specs.List.{AllPairs, AllWithin, list_any}
use Rattle.std.specs.List.Sorted.{IsNonDecreasingBy}
use Rattle.rp_latch.specs.declared.ages.Numbered.{Numbered}
use Rattle.rp_latch.specs.Indexes.{IsOlder}
use Rattle.rp_latch.proofs.Elements.{left_true, right_true, same_read}

pub numbers_rise : (hs : List Numbered) → AllPairs IsOlder hs → IsNonDecreasingBy (λ h. h.number) hs
numbers_rise hs h i j d l b = go (nat_lt i j) refl where
  go : (t : Bool) → nat_lt i j ≡ t → (get_or hs i d).number ≤ (get_or hs j d).number
  go true e = let lt : i < j = grind (arith, nat_tests) in let far = h i j d lt b in omega arith
  go false e = let same : i ≡ j = grind (arith, nat_tests) in rw same (omega arith)

equals : (a b : ℕ) → (a == b) ≡ true → a ≡ b
equals a b h = grind (arith, nat_tests)

-- what is known of the hold at the place of a number
pub record At (hs : List Numbered) (q : Numbered → Bool) (n k : ℕ) : Type 0 where
  pub within : k < length hs
  pub number : (d : Numbered) → (get_or hs k d).number ≡ n
  pub passes : (d : Numbered) → q (get_or hs k d) ≡ true

-- where a hold with the number passes a test, it stands at the place of the number
module _ (hs : List Numbered) (h : AllPairs IsOlder hs) (n k : ℕ)
    (before : AllWithin (λ x. x.number < n) hs 0 k) (after : AllWithin (λ x. n ≤ x.number) hs k (length hs)) where
  at : (j : ℕ) (y : Numbered) → j < length hs → (get_or hs j y).number ≡ n → (a b : Bool) → nat_lt j k ≡ a → nat_lt k j ≡ b → j ≡ k
  at j y l e true b t u = absurd (let low : j < k = grind (arith, nat_tests) in let far : (get_or hs j y).number < n = before j y (omega arith) low in omega arith)
  at j y l e false true t u =
      absurd (let high : k < j = grind (arith, nat_tests) in let far : (get_or hs k y).number < (get_or hs j y).number = h k j y high l in
      let near : n ≤ (get_or hs k y).number = after k y (omega arith) (omega arith) in omega arith)
  at j y l e false false t u = grind (arith, nat_tests)

  pub at_number : (q : Numbered → Bool) → list_any (λ x. q x && x.number == n) hs ≡ true → At hs q n k
  at_number q is = go (Any-from_list_any (λ x. q x && x.number == n) hs is) where
    go : (j : ℕ) × (y : Numbered) × (j < length hs) × (get_or hs j y ≡ y) × ((q y && y.number == n) ≡ true) → At hs q n k
    go found =
        let j = found.0 in let y = found.1 in
        let number : (get_or hs j y).number ≡ n = ap (λ (x : Numbered). x.number) found.3 ∙ equals y.number n (right_true (q y) _ found.4) in
        let here : j ≡ k = at j y found.2 number (nat_lt j k) (nat_lt k j) refl refl in
        let far : k < length hs = subst (λ (i : ℕ). i < length hs) here found.2 in
        let is_y : get_or hs k y ≡ y = subst (λ (i : ℕ). get_or hs i y ≡ y) here found.3 in
        record {
          within = far;
          number = λ d. ap (λ (x : Numbered). x.number) (same_read hs k d y far ∙ is_y) ∙ equals y.number n (right_true (q y) _ found.4);
          passes = λ d. ap q (same_read hs k d y far ∙ is_y) ∙ left_true (q y) _ found.4;
        }

-- A walk over the numbers of ranges, and over a list of handovers.
use Rattle.std.proofs.Common.{◌≡◌, ℕ, zero, suc, ◌+◌, ◌<◌, ◌≤◌, Bool, true, false, not, cond, Option, None, Some, List, [], ◌∷◌, length, drop, refl, ap, ◌∙◌, arith}
use Rattle.std.specs.Prelude.{slice_get, is_some}
use Rattle.std.specs.List.{filter, find}
use Rattle.std.proofs.lemmas.List.{drop_all}
use Rattle.rp_events.specs.Nodes.{range_numbers}
use Rattle.rp_node.proofs.Ticking.{next_number}

-- what is found from a number on
pub find_here : (p : ℕ → Bool) (k : ℕ) → k < 8 → p k ≡ true → find p (drop k range_numbers) ≡ Some k
find_here p k low is = ap (find p) (next_number k low) ∙ go (p k) is where
  go : (b : Bool) → b ≡ true → cond b (Some k) (find p (drop (k + 1) range_numbers)) ≡ Some k
  go true e = refl
  go false e = absurd cc

pub find_later : (p : ℕ → Bool) (k : ℕ) → k < 8 → p k ≡ false → find p (drop k range_numbers) ≡ find p (drop (k + 1) range_numbers)
find_later p k low is = ap (find p) (next_number k low) ∙ go (p k) is where
  go : (b : Bool) → b ≡ false → cond b (Some k) (find p (drop (k + 1) range_numbers)) ≡ find p (drop (k + 1) range_numbers)
  go true e = absurd cc
  go false e = refl

-- what is left of a filter behind a number
pub filter_here : {X : Type 0} (p : X → Bool) (x : X) (xs : List X) → p x ≡ true → filter p (x ∷ xs) ≡ x ∷ filter p xs
filter_here p x xs is = go (p x) is where
  go : (b : Bool) → b ≡ true → cond b (x ∷ filter p xs) (filter p xs) ≡ x ∷ filter p xs
  go true e = refl
  go false e = absurd cc

pub filter_later : {X : Type 0} (p : X → Bool) (x : X) (xs : List X) → p x ≡ false → filter p (x ∷ xs) ≡ filter p xs
filter_later p x xs is = go (p x) is where
  go : (b : Bool) → b ≡ false → cond b (x ∷ filter p xs) (filter p xs) ≡ filter p xs
  go true e = absurd cc
  go false e = refl

-- the place among those that pass a test, from a number on
pub place_here : (p : ℕ → Bool) (k left : ℕ) → k < 8 → p k ≡ true → left ≡ 0 → slice_get (filter p (drop k range_numbers)) left ≡ Some k
place_here p k left low is none =
    ap (slice_get (filter p (drop k range_numbers))) none ∙ ap (λ l. slice_get (filter p l) 0) (next_number k low)
    ∙ ap (λ l. slice_get l 0) (filter_here p k (drop (k + 1) range_numbers) is)

pub place_passed : (p : ℕ → Bool) (k left less : ℕ) → k < 8 → p k ≡ true → left ≡ suc less → slice_get (filter p (drop k range_numbers)) left ≡ slice_get (filter p (drop (k + 1) range_numbers)) less
place_passed p k left less low is more =
    ap (slice_get (filter p (drop k range_numbers))) more ∙ ap (λ l. slice_get (filter p l) (suc less)) (next_number k low)
    ∙ ap (λ l. slice_get l (suc less)) (filter_here p k (drop (k + 1) range_numbers) is)

pub place_later : (p : ℕ → Bool) (k left : ℕ) → k < 8 → p k ≡ false → slice_get (filter p (drop k range_numbers)) left ≡ slice_get (filter p (drop (k + 1) range_numbers)) left
place_later p k left low is =
    ap (λ l. slice_get (filter p l) left) (next_number k low) ∙ ap (λ l. slice_get l left) (filter_later p k (drop (k + 1) range_numbers) is)

pub numbers_end : (k : ℕ) → 8 ≤ k → drop k range_numbers ≡ []
numbers_end k high = drop_all k range_numbers high

-- no more than eight pass a test
filter_short : {X : Type 0} (p : X → Bool) (xs : List X) → length (filter p xs) ≤ length xs
filter_short p [] = omega arith
filter_short {X} p (x ∷ xs) = go (p x) (filter_short p xs) where
  go : (b : Bool) → length (filter p xs) ≤ length xs → length (cond b (x ∷ filter p xs) (filter p xs)) ≤ suc (length xs)
  go true h = omega (arith, h)
  go false h = omega (arith, h)

pub beyond : {X : Type 0} (xs : List X) (i : ℕ) → length xs ≤ i → slice_get xs i ≡ None
beyond [] i h = refl
beyond (x ∷ xs) zero h = absurd (omega (arith, h))
beyond (x ∷ xs) (suc i) h = beyond xs i (omega (arith, h))

pub none_beyond : (p : ℕ → Bool) (k : ℕ) → 8 ≤ k → slice_get (filter p range_numbers) k ≡ None
none_beyond p k high = beyond (filter p range_numbers) k (let s : length (filter p range_numbers) ≤ 8 = filter_short p range_numbers in omega (arith, s, high))

pub not_some : {X : Type 0} (o : Option X) → o ≡ None → not (is_some o) ≡ true
not_some o e = ap (λ z. not (is_some z)) e

-- the same in a list, by what is left of it
pub item_here : {X : Type 0} (p : X → Bool) (x : X) (xs rest : List X) (left : ℕ) → xs ≡ x ∷ rest → p x ≡ true → left ≡ 0 → slice_get (filter p xs) left ≡ Some x
item_here p x xs rest left is yes_is none =
    ap (slice_get (filter p xs)) none ∙ ap (λ l. slice_get (filter p l) 0) is ∙ ap (λ l. slice_get l 0) (filter_here p x rest yes_is)

pub item_passed : {X : Type 0} (p : X → Bool) (x : X) (xs rest : List X) (left less : ℕ) → xs ≡ x ∷ rest → p x ≡ true → left ≡ suc less → slice_get (filter p xs) left ≡ slice_get (filter p rest) less
item_passed p x xs rest left less is yes_is more =
    ap (slice_get (filter p xs)) more ∙ ap (λ l. slice_get (filter p l) (suc less)) is ∙ ap (λ l. slice_get l (suc less)) (filter_here p x rest yes_is)

pub item_later : {X : Type 0} (p : X → Bool) (x : X) (xs rest : List X) (left : ℕ) → xs ≡ x ∷ rest → p x ≡ false → slice_get (filter p xs) left ≡ slice_get (filter p rest) left
item_later p x xs rest left is no_is =
    ap (λ l. slice_get (filter p l) left) is ∙ ap (λ l. slice_get l left) (filter_later p x rest no_is)

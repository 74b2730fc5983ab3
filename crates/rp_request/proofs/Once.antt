-- Places of a command, by count and by index.
use Rattle.std.proofs.Common.{◌≡◌, ℕ, zero, suc, ◌+◌, ◌≤◌, Bool, true, false, cond, IsTrue, List, [], ◌∷◌, ◌++◌, Some, count_by, slice_get, refl, ap, ◌∙◌, arith}
use Rattle.std.proofs.lemmas.List.Sums.{sum_by-append, sum_by-cons}
use Rattle.rp_request.specs.declared.items.Place.{Place}
use Rattle.rp_request.specs.Places.{names, places_of, IsPlaceOf, IsOnce}

pub places_further : (client seq : ℕ) (xs ys : List Place) → places_of client seq (xs ++ ys) ≡ places_of client seq xs + places_of client seq ys
places_further client seq xs ys = sum_by-append (λ x. cond (names client seq x) 1 0) xs ys

module _ (p : Place → Bool) where
  -- a first item that passes, and one that does not
  counted : (x : Place) (xs : List Place) → IsTrue (p x) → count_by p (x ∷ xs) ≡ 1 + count_by p xs
  counted x xs h = sum_by-cons (λ y. cond (p y) 1 0) x xs ∙ ap (λ b. cond b 1 0 + count_by p xs) h

  passed : (x : Place) (xs : List Place) → p x ≡ false → count_by p (x ∷ xs) ≡ count_by p xs
  passed x xs h = let e = sum_by-cons (λ y. cond (p y) 1 0) x xs ∙ ap (λ b. cond b 1 0 + count_by p xs) h in omega arith

  -- an item that passes is counted
  some_counted : (xs : List Place) (i : ℕ) (x : Place) → slice_get xs i ≡ Some x → IsTrue (p x) → 1 ≤ count_by p xs
  some_counted [] i x e h = absurd cc
  some_counted (y ∷ xs) zero x e h = let here : p y ≡ true = cc in let n = counted y xs here in omega arith
  some_counted (y ∷ xs) (suc i) x e h = let n = some_counted xs i x e h in go (p y) refl n where
    go : (b : Bool) → p y ≡ b → 1 ≤ count_by p xs → 1 ≤ count_by p (y ∷ xs)
    go true h n = let m = counted y xs h in omega arith
    go false h n = let m = passed y xs h in omega arith

  -- the items behind the first count no more
  more : (z : Place) (xs : List Place) → count_by p xs ≤ count_by p (z ∷ xs)
  more z xs = go (p z) refl where
    go : (b : Bool) → p z ≡ b → count_by p xs ≤ count_by p (z ∷ xs)
    go true h = let n = counted z xs h in omega arith
    go false h = let n = passed z xs h in omega arith

  -- where at most one is counted, two that pass are one
  one_index : (xs : List Place) (i j : ℕ) (x y : Place) → count_by p xs ≤ 1 → slice_get xs i ≡ Some x → IsTrue (p x) → slice_get xs j ≡ Some y → IsTrue (p y) → i ≡ j
  one_index [] i j x y l e h f k = absurd cc
  one_index (z ∷ xs) zero zero x y l e h f k = refl
  one_index (z ∷ xs) zero (suc j) x y l e h f k =
      let here : p z ≡ true = cc in
      absurd (omega (arith, counted z xs here, some_counted xs j y f k))
  one_index (z ∷ xs) (suc i) zero x y l e h f k =
      let here : p z ≡ true = cc in
      absurd (omega (arith, counted z xs here, some_counted xs i x e h))
  one_index (z ∷ xs) (suc i) (suc j) x y l e h f k = ap suc (one_index xs i j x y (omega (arith, more z xs)) e h f k)

  -- where none passes, none is counted
  none_counted : (xs : List Place) → ((j : ℕ) (y : Place) → slice_get xs j ≡ Some y → IsTrue (p y) → ⊥) → count_by p xs ≡ 0
  none_counted [] h = refl
  none_counted (z ∷ xs) h = go (p z) refl (none_counted xs (λ j. h (suc j))) where
    go : (b : Bool) → p z ≡ b → count_by p xs ≡ 0 → count_by p (z ∷ xs) ≡ 0
    go true i n = absurd (h 0 z refl i)
    go false i n = passed z xs i ∙ n

  one_counted : (xs : List Place) → ((i j : ℕ) (x y : Place) → slice_get xs i ≡ Some x → IsTrue (p x) → slice_get xs j ≡ Some y → IsTrue (p y) → i ≡ j) → count_by p xs ≤ 1
  one_counted [] h = omega arith
  one_counted (z ∷ xs) h = go (p z) refl (one_counted xs (λ i j x y e k f l. let s = h (suc i) (suc j) x y e k f l in omega arith)) where
    go : (b : Bool) → p z ≡ b → count_by p xs ≤ 1 → count_by p (z ∷ xs) ≤ 1
    go true k n =
        let none = none_counted xs (λ j y f l. let s = h 0 (suc j) z y refl k f l in absurd (omega arith)) in
        let c = counted z xs k in
        omega arith
    go false k n = let c = passed z xs k in omega arith

pub once_by_index : (items : List Place)
    → ((client seq i j : ℕ) → IsPlaceOf (λ _. items) client seq 0 i → IsPlaceOf (λ _. items) client seq 0 j → i ≡ j)
    → IsOnce items
once_by_index items h client seq = one_counted (names client seq) items (λ i j x y e p f q.
    h client seq i j (record { item = x; here = e; named = p }) (record { item = y; here = f; named = q }))

pub index_by_once : (items : List Place) → IsOnce items → (client seq i j : ℕ)
    → IsPlaceOf (λ _. items) client seq 0 i → IsPlaceOf (λ _. items) client seq 0 j → i ≡ j
index_by_once items h client seq i j p q = one_index (names client seq) items i j p.item q.item (h client seq) p.here p.named q.here q.named

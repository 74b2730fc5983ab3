-- What a stable sort gives is the one list that ascends and keeps the order of equal keys.
use Rattle.std.proofs.Common.{◌≡◌, ℕ, ◌≤◌, ◌<◌, Bool, true, false, cond, nat_le, List, [], ◌∷◌, length, get_or, refl, sym, ap, subst, ◌∙◌, arith, ◌==◌, zero, suc}
use Rattle.std.specs.List.{filter}
use Rattle.std.specs.List.Sorted.{IsNonDecreasingBy, IsSortedByKey, IsStableByKey, ties}
use Rattle.std.specs.Ordering.{is_lt, nat_cmp}
use Rattle.std.proofs.lemmas.List.Sorted.{IsNonDecreasingBy-from_sort}
use Rattle.std.proofs.lemmas.Bool.Decides.{nat_tests}
use Rattle.std.proofs.lemmas.Bool.{eqb-true}
use Rattle.rp_pending.specs.Refreshes.{put_by, by_key}

module _ {X : Type 0} (key : X → ℕ) where
  -- each key is at or above n
  abbrev AllFrom : ℕ → List X → Type 0
  AllFrom n [] = Unit {0}
  AllFrom n (x ∷ xs) = (n ≤ key x) × AllFrom n xs

  -- no key is above a later one
  abbrev Ascends : List X → Type 0
  Ascends [] = Unit {0}
  Ascends (x ∷ xs) = AllFrom (key x) xs × Ascends xs

  from_less : (m n : ℕ) (xs : List X) → m ≤ n → AllFrom n xs → AllFrom m xs
  from_less m n [] h a = tt
  from_less m n (x ∷ xs) h a = (omega (arith, a.0), from_less m n xs h a.1)

  put_from : (n : ℕ) (x : X) (ys : List X) → n ≤ key x → AllFrom n ys → AllFrom n (put_by key x ys)
  put_from n x [] h a = (h, tt)
  put_from n x (y ∷ ys) h a = by (nat_le (key x) (key y)) (put_from n x ys h a.1)
    where
      by : (b : Bool) → AllFrom n (put_by key x ys) → AllFrom n (cond b (x ∷ y ∷ ys) (y ∷ put_by key x ys))
      by true ih = (h, a)
      by false ih = (a.0, ih)

  put_ascends : (x : X) (ys : List X) → Ascends ys → Ascends (put_by key x ys)
  put_ascends x [] a = (tt, tt)
  put_ascends x (y ∷ ys) a = by (nat_le (key x) (key y)) refl (put_ascends x ys a.1)
    where
      by : (b : Bool) → nat_le (key x) (key y) ≡ b → Ascends (put_by key x ys) → Ascends (cond b (x ∷ y ∷ ys) (y ∷ put_by key x ys))
      by true e ih = let h : key x ≤ key y = grind (arith, nat_tests) in ((h, from_less (key x) (key y) ys h a.0), a)
      by false e ih = let h : key y ≤ key x = grind (arith, nat_tests) in (put_from (key y) x ys h a.0, ih)

  by_key_ascends : (xs : List X) → Ascends (by_key key xs)
  by_key_ascends [] = tt
  by_key_ascends (x ∷ xs) = put_ascends x (by_key key xs) (by_key_ascends xs)

  -- a test that only items with one key pass
  abbrev OneKey : (X → Bool) → Type 0
  OneKey p = (x y : X) → p x ≡ true → p y ≡ true → key x ≡ key y

  put_keeps : (p : X → Bool) → OneKey p → (x : X) (ys : List X) → filter p (put_by key x ys) ≡ filter p (x ∷ ys)
  put_keeps p one x [] = refl
  put_keeps p one x (y ∷ ys) = by (nat_le (key x) (key y)) refl (put_keeps p one x ys)
    where
      both : (b c : Bool) → p x ≡ b → p y ≡ c → nat_le (key x) (key y) ≡ false → (fs : List X)
          → cond c (y ∷ cond b (x ∷ fs) fs) (cond b (x ∷ fs) fs) ≡ cond b (x ∷ cond c (y ∷ fs) fs) (cond c (y ∷ fs) fs)
      both true true e f h fs = let same = one x y e f in absurd (grind (arith, nat_tests))
      both true false e f h fs = refl
      both false true e f h fs = refl
      both false false e f h fs = refl

      by : (b : Bool) → nat_le (key x) (key y) ≡ b → filter p (put_by key x ys) ≡ filter p (x ∷ ys)
          → filter p (cond b (x ∷ y ∷ ys) (y ∷ put_by key x ys)) ≡ filter p (x ∷ y ∷ ys)
      by true e ih = refl
      by false e ih = ap (λ fs. cond (p y) (y ∷ fs) fs) ih ∙ both (p x) (p y) refl refl e (filter p ys)

  by_key_keeps : (p : X → Bool) → OneKey p → (xs : List X) → filter p (by_key key xs) ≡ filter p xs
  by_key_keeps p one [] = refl
  by_key_keeps p one (x ∷ xs) = put_keeps p one x (by_key key xs) ∙ ap (λ fs. cond (p x) (x ∷ fs) fs) (by_key_keeps p one xs)

  -- an item that a filter leaves first was there
  first_from : (n : ℕ) (p : X → Bool) (zs : List X) (y : X) (rest : List X) → AllFrom n zs → filter p zs ≡ y ∷ rest → n ≤ key y
  first_from n p [] y rest a h = cc
  first_from n p (z ∷ zs) y rest a h = by (p z) h (first_from n p zs y rest a.1)
    where
      by : (b : Bool) → cond b (z ∷ filter p zs) (filter p zs) ≡ y ∷ rest → (filter p zs ≡ y ∷ rest → n ≤ key y) → n ≤ key y
      by true h ih = let e : z ≡ y = cc in subst (λ w. n ≤ key w) e a.0
      by false h ih = ih h

  tail_same : (b : Bool) (y : X) (us vs : List X) → cond b (y ∷ us) us ≡ cond b (y ∷ vs) vs → us ≡ vs
  tail_same true y us vs h = cc
  tail_same false y us vs h = h

  module _ (t : X → X → Bool) (says : (x y : X) → t x y ≡ true → key x ≡ key y) (holds : (x y : X) → key x ≡ key y → t x y ≡ true) where
    first_is : (y : X) (ys : List X) → filter (t y) (y ∷ ys) ≡ y ∷ filter (t y) ys
    first_is y ys = ap (λ b. cond b (y ∷ filter (t y) ys) (filter (t y) ys)) (holds y y refl)

    one_list : (ys zs : List X) → Ascends ys → Ascends zs → ((x : X) → filter (t x) ys ≡ filter (t x) zs) → ys ≡ zs
    one_list [] [] a b h = refl
    one_list [] (z ∷ zs) a b h = let e = h z ∙ first_is z zs in cc
    one_list (y ∷ ys) [] a b h = let e = sym (first_is y ys) ∙ h y in cc
    one_list (y ∷ ys) (z ∷ zs) a b h =
        let low : key z ≤ key y = first_from (key z) (t y) (z ∷ zs) y (filter (t y) ys) (omega arith, b.0) (sym (h y) ∙ first_is y ys) in
        let high : key y ≤ key z = first_from (key y) (t z) (y ∷ ys) z (filter (t z) zs) (omega arith, a.0) (h z ∙ first_is z zs) in
        let tie : key y ≡ key z = omega arith in
        let at : filter (t y) (z ∷ zs) ≡ z ∷ filter (t y) zs = ap (λ b. cond b (z ∷ filter (t y) zs) (filter (t y) zs)) (holds y z tie) in
        let pair : y ∷ filter (t y) ys ≡ z ∷ filter (t y) zs = sym (first_is y ys) ∙ h y ∙ at in
        let same : y ≡ z = cc in
        let tails = λ (x : X). tail_same (t x y) y (filter (t x) ys) (filter (t x) zs) (h x ∙ ap (λ w. filter (t x) (w ∷ zs)) (sym same)) in
        ap (λ w. w ∷ ys) same ∙ ap (λ ws. z ∷ ws) (one_list ys zs a.1 b.1 tails)

  from_places : (n : ℕ) (xs : List X) → ((j : ℕ) (d : X) → j < length xs → n ≤ key (get_or xs j d)) → AllFrom n xs
  from_places n [] h = tt
  from_places n (x ∷ xs) h = (h 0 x (omega arith), from_places n xs (λ j d l. h (suc j) d (omega arith)))

  from_sorted : (xs : List X) → IsNonDecreasingBy key xs → Ascends xs
  from_sorted [] h = tt
  from_sorted (x ∷ xs) h =
      (from_places (key x) xs (λ j d l. h 0 (suc j) d (omega arith) (omega arith)), from_sorted xs (λ i j d l m. h (suc i) (suc j) d (omega arith) (omega arith)))

  abbrev tied : X → X → Bool
  tied = ties (λ x y. is_lt (nat_cmp (key x) (key y)))

  tied_says : (x y : X) → tied x y ≡ true → key x ≡ key y
  tied_says x y h = grind (arith, nat_tests)

  tied_holds : (x y : X) → key x ≡ key y → tied x y ≡ true
  tied_holds x y h = grind (arith, nat_tests)

  -- a stable sort by an unsigned key
  pub sorted_by_key : (xs ys : List X) → IsSortedByKey key nat_cmp ys → IsStableByKey key nat_cmp xs ys → ys ≡ by_key key xs
  sorted_by_key xs ys sorted stable =
      one_list tied tied_says tied_holds ys (by_key key xs) (from_sorted ys (IsNonDecreasingBy-from_sort key ys sorted)) (by_key_ascends xs)
      (λ x. stable x ∙ sym (by_key_keeps (tied x) (λ y z h k. sym (tied_says x y h) ∙ tied_says x z k) xs))

  at_place : (n : ℕ) (xs : List X) → AllFrom n xs → (j : ℕ) (d : X) → j < length xs → n ≤ key (get_or xs j d)
  at_place n [] a j d l = absurd (omega arith)
  at_place n (x ∷ xs) a zero d l = a.0
  at_place n (x ∷ xs) a (suc j) d l = at_place n xs a.1 j d (omega arith)

  rises : (xs : List X) → Ascends xs → IsNonDecreasingBy key xs
  rises [] a i j d h l = absurd (omega arith)
  rises (x ∷ xs) a zero zero d h l = omega arith
  rises (x ∷ xs) a zero (suc j) d h l = at_place (key x) xs a.0 j d (omega arith)
  rises (x ∷ xs) a (suc i) zero d h l = absurd (omega arith)
  rises (x ∷ xs) a (suc i) (suc j) d h l = rises xs a.1 i j d (omega arith) (omega arith)

  pub ascending : (xs : List X) → IsNonDecreasingBy key (by_key key xs)
  ascending xs = rises (by_key key xs) (by_key_ascends xs)

  pub in_their_order : (xs : List X) (n : ℕ) → filter (λ x. key x == n) (by_key key xs) ≡ filter (λ x. key x == n) xs
  in_their_order xs n = by_key_keeps (λ x. key x == n) (λ x y h k. eqb-true _ _ h ∙ sym (eqb-true _ _ k)) xs

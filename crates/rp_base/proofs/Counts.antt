-- How many items of a list pass a test, and whether one does.
use Rattle.std.proofs.Common.{◌≡◌, ℕ, ◌+◌, ◌<◌, ◌≤◌, Bool, true, false, cond, ◌||◌, nat_lt, List, [], ◌∷◌, ◌++◌, length, get_or, refl, sym, ap, ◌∙◌, zero-add, arith}
use Rattle.std.proofs.lemmas.Bool.Decides.{nat_tests}
use Rattle.std.proofs.lemmas.List.Folds.{list_any_none, list_any_at}
use Rattle.std.proofs.lemmas.List.Sums.{sum_by-append}
use Rattle.std.specs.List.{list_any, count_by}

-- where none passes, each fails
pub none_at : {X : Type 0} (p : X → Bool) (xs : List X) → list_any p xs ≡ false → (k : ℕ) (d : X) → k < length xs → p (get_or xs k d) ≡ false
none_at p xs h k d l = go (p (get_or xs k d)) refl where
  go : (b : Bool) → p (get_or xs k d) ≡ b → p (get_or xs k d) ≡ false
  go true e = absurd (let some : list_any p xs ≡ true = list_any_at p xs k d l e in cc)
  go false e = e

-- two tests that say the same, and both of two tests
pub any_same : {X : Type 0} (p q : X → Bool) → ((x : X) → p x ≡ q x) → (xs : List X) → list_any p xs ≡ list_any q xs
any_same p q e [] = refl
any_same p q e (x ∷ xs) = ap (λ b. b || list_any p xs) (e x) ∙ ap (λ b. q x || b) (any_same p q e xs)

four : (a b c d : Bool) → ((a || b) || (c || d)) ≡ ((a || c) || (b || d))
four true b c d = refl
four false true true d = refl
four false true false d = refl
four false false c d = refl

pub any_or : {X : Type 0} (p q : X → Bool) (xs : List X) → list_any (λ x. p x || q x) xs ≡ (list_any p xs || list_any q xs)
any_or p q [] = refl
any_or p q (x ∷ xs) = ap (λ b. (p x || q x) || b) (any_or p q xs) ∙ four (p x) (q x) (list_any p xs) (list_any q xs)

-- a test that another implies
pub any_less : {X : Type 0} (p q : X → Bool) → ((x : X) → p x ≡ true → q x ≡ true) → (xs : List X) → list_any q xs ≡ false → list_any p xs ≡ false
any_less {X} p q imp xs h = list_any_none p xs (λ k d l. go (get_or xs k d) (p (get_or xs k d)) refl (none_at q xs h k d l)) where
  go : (x : X) (b : Bool) → p x ≡ b → q x ≡ false → p x ≡ false
  go x true e n = absurd (let y : q x ≡ true = imp x e in cc)
  go x false e n = e

pub any_more : {X : Type 0} (p q : X → Bool) → ((x : X) → p x ≡ true → q x ≡ true) → (xs : List X) → list_any p xs ≡ true → list_any q xs ≡ true
any_more p q imp xs h = go (list_any q xs) refl where
  go : (b : Bool) → list_any q xs ≡ b → list_any q xs ≡ true
  go true e = e
  go false e = absurd (let n : list_any p xs ≡ false = any_less p q imp xs e in cc)

-- an item more, in front or behind
pub count_cons : {X : Type 0} (p : X → Bool) (x : X) (xs : List X) → count_by p (x ∷ xs) ≡ cond (p x) 1 0 + count_by p xs
count_cons p x xs = sum_by-append (λ y. cond (p y) 1 0) (x ∷ []) xs ∙ ap (λ n. n + count_by p xs) (zero-add (cond (p x) 1 0))

pub count_push : {X : Type 0} (p : X → Bool) (xs : List X) (x : X) → count_by p (xs ++ x ∷ []) ≡ count_by p xs + cond (p x) 1 0
count_push p xs x = sum_by-append (λ y. cond (p y) 1 0) xs (x ∷ []) ∙ ap (λ n. count_by p xs + n) (zero-add (cond (p x) 1 0))

pub count_append : {X : Type 0} (p : X → Bool) (xs ys : List X) → count_by p (xs ++ ys) ≡ count_by p xs + count_by p ys
count_append p xs ys = sum_by-append (λ y. cond (p y) 1 0) xs ys

-- one passes exactly where their number is above 0
pub some_count : {X : Type 0} (p : X → Bool) (xs : List X) → list_any p xs ≡ nat_lt 0 (count_by p xs)
some_count p [] = refl
some_count p (x ∷ xs) = go (p x) (some_count p xs) ∙ ap (nat_lt 0) (sym (count_cons p x xs)) where
  go : (b : Bool) → list_any p xs ≡ nat_lt 0 (count_by p xs) → (b || list_any p xs) ≡ nat_lt 0 (cond b 1 0 + count_by p xs)
  go true e = grind (arith, nat_tests)
  go false e = e ∙ ap (nat_lt 0) (sym (zero-add (count_by p xs)))

-- where as many pass, one passes here where one passes there
pub any_counted : {X Y : Type 0} (p : X → Bool) (q : Y → Bool) (xs : List X) (ys : List Y) → count_by p xs ≡ count_by q ys → list_any p xs ≡ list_any q ys
any_counted p q xs ys e = some_count p xs ∙ ap (nat_lt 0) e ∙ sym (some_count q ys)

pub any_of_count : {X : Type 0} (p : X → Bool) (xs : List X) → 1 ≤ count_by p xs → list_any p xs ≡ true
any_of_count p xs h = some_count p xs ∙ more (count_by p xs) h where
  more : (n : ℕ) → 1 ≤ n → nat_lt 0 n ≡ true
  more n h = grind (arith, nat_tests)

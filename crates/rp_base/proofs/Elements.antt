-- Lists of which each item keeps a property, and how many items are left.
use Rattle.std.proofs.Common.{◌≡◌, ◌≤◌, ◌<◌, ℕ, zero, suc, ◌||◌, Bool, true, false, cond, List, [], ◌∷◌, ◌++◌, length, map, Option, None, Some, is_some, refl, subst, arith}
use Rattle.std.specs.Prelude.{slice_get, filter_map}
use Rattle.std.specs.List.{AllByRecursion, filter, find, list_any, cons_option}

pub all_snoc : {X : Type 0} (P : X → Type 0) (xs : List X) (x : X) → AllByRecursion P xs → P x → AllByRecursion P (xs ++ x ∷ [])
all_snoc P [] x h p = (p, tt)
all_snoc P (y ∷ xs) x h p = (h.0, all_snoc P xs x h.1 p)

pub all_append : {X : Type 0} (P : X → Type 0) (xs ys : List X) → AllByRecursion P xs → AllByRecursion P ys → AllByRecursion P (xs ++ ys)
all_append P [] ys h k = k
all_append P (x ∷ xs) ys h k = (h.0, all_append P xs ys h.1 k)

pub all_weaker : {X : Type 0} (P Q : X → Type 0) → ((x : X) → P x → Q x) → (xs : List X) → AllByRecursion P xs → AllByRecursion Q xs
all_weaker P Q f [] h = tt
all_weaker P Q f (x ∷ xs) h = (f x h.0, all_weaker P Q f xs h.1)

pub all_map : {X Y : Type 0} (P : X → Type 0) (Q : Y → Type 0) (g : X → Y) → ((x : X) → P x → Q (g x)) → (xs : List X) → AllByRecursion P xs → AllByRecursion Q (map g xs)
all_map P Q g f [] h = tt
all_map P Q g f (x ∷ xs) h = (f x h.0, all_map P Q g f xs h.1)

keep_by : {X : Type 0} (P : X → Type 0) (b : Bool) (x : X) (xs : List X) → P x → AllByRecursion P xs → AllByRecursion P (cond b (x ∷ xs) xs)
keep_by P true x xs p h = (p, h)
keep_by P false x xs p h = h

pub all_filter : {X : Type 0} (P : X → Type 0) (p : X → Bool) (xs : List X) → AllByRecursion P xs → AllByRecursion P (filter p xs)
all_filter P p [] h = tt
all_filter P p (x ∷ xs) h = keep_by P (p x) x (filter p xs) h.0 (all_filter P p xs h.1)

-- each item that a test keeps passes it
pub all_pass : {X : Type 0} (t : X → Bool) (xs : List X) → AllByRecursion (λ x. t x ≡ true) (filter t xs)
all_pass t [] = tt
all_pass t (x ∷ xs) = go (t x) refl (all_pass t xs) where
  go : (b : Bool) → t x ≡ b → AllByRecursion (λ y. t y ≡ true) (filter t xs) → AllByRecursion (λ y. t y ≡ true) (cond b (x ∷ filter t xs) (filter t xs))
  go true e h = (e, h)
  go false e h = h

pub each_at : {X : Type 0} (P : X → Type 0) (xs : List X) (i : ℕ) (x : X) → AllByRecursion P xs → slice_get xs i ≡ Some x → P x × (i < length xs)
each_at P [] i x h at = cc
each_at P (y ∷ xs) zero x h at = (subst P (some_is y x at) h.0, omega arith)
  where
    some_is : {X : Type 0} (a b : X) → Some a ≡ Some b → a ≡ b
    some_is a b e = cc
each_at P (y ∷ xs) (suc i) x h at = let r = each_at P xs i x h.1 at in (r.0, omega (arith, r.1))

-- no more items are left than there were
fewer_if : {X : Type 0} (b : Bool) (x : X) (xs : List X) (n : ℕ) → length xs ≤ n → length (cond b (x ∷ xs) xs) ≤ suc n
fewer_if true x xs n h = omega (arith, h)
fewer_if false x xs n h = omega (arith, h)

pub fewer_filtered : {X : Type 0} (p : X → Bool) (xs : List X) → length (filter p xs) ≤ length xs
fewer_filtered p [] = omega arith
fewer_filtered p (x ∷ xs) = fewer_if (p x) x (filter p xs) (length xs) (fewer_filtered p xs)

fewer_some : {X : Type 0} (o : Option X) (xs : List X) (n : ℕ) → length xs ≤ n → length (cons_option o xs) ≤ suc n
fewer_some None xs n h = omega (arith, h)
fewer_some (Some x) xs n h = omega (arith, h)

pub fewer_mapped : {X Y : Type 0} (f : X → Option Y) (xs : List X) → length (filter_map f xs) ≤ length xs
fewer_mapped f [] = omega arith
fewer_mapped f (x ∷ xs) = fewer_some (f x) (filter_map f xs) (length xs) (fewer_mapped f xs)

-- an item is found exactly where one passes
pub found_some : {X : Type 0} (p : X → Bool) (xs : List X) → is_some (find p xs) ≡ list_any p xs
found_some p [] = refl
found_some p (x ∷ xs) = go (p x) (found_some p xs) where
  go : (b : Bool) → is_some (find p xs) ≡ list_any p xs → is_some (cond b (Some x) (find p xs)) ≡ (b || list_any p xs)
  go true e = refl
  go false e = e

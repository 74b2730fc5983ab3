-- Lists that grow at their ends.
use Rattle.std.proofs.Common.{◌≡◌, ℕ, zero, suc, ◌≤◌, Bool, true, false, cond, Option, Some, List, [], ◌∷◌, ◌++◌, length, take, set, refl, sym, ap, subst, ◌∙◌, arith, append-nil, append_assoc}
use Rattle.std.specs.Prelude.{slice_get, ◌||◌}
use Rattle.std.specs.List.{find, list_any, AllByRecursion}
use Rattle.rp_journals.specs.Growth.{Begins}

pub begins_refl : {X : Type 0} (xs : List X) → Begins xs xs
begins_refl xs = record { more = []; is = sym (append-nil xs) }

pub begins_push : {X : Type 0} (xs more : List X) → Begins xs (xs ++ more)
begins_push xs more = record { more = more; is = refl }

pub begins_trans : {X : Type 0} (xs ys zs : List X) → Begins xs ys → Begins ys zs → Begins xs zs
begins_trans xs ys zs a b = record { more = a.more ++ b.more; is = b.is ∙ ap (λ l. l ++ b.more) a.is ∙ append_assoc xs a.more b.more }

pub begins_nil : {X : Type 0} (xs : List X) → Begins [] xs
begins_nil xs = record { more = xs; is = refl }

-- an item of the front
pub get_front : {X : Type 0} (xs ys : List X) (i : ℕ) (x : X) → slice_get xs i ≡ Some x → slice_get (xs ++ ys) i ≡ Some x
get_front [] ys i x e = absurd cc
get_front (z ∷ xs) ys zero x e = e
get_front (z ∷ xs) ys (suc i) x e = get_front xs ys i x e

pub get_begins : {X : Type 0} (xs ys : List X) → Begins xs ys → (i : ℕ) (x : X) → slice_get xs i ≡ Some x → slice_get ys i ≡ Some x
get_begins xs ys b i x e = subst (λ l. slice_get l i ≡ Some x) (sym b.is) (get_front xs b.more i x e)

-- the first item behind the front
pub get_end : {X : Type 0} (xs : List X) (x : X) (ys : List X) → slice_get (xs ++ x ∷ ys) (length xs) ≡ Some x
get_end [] x ys = refl
get_end (z ∷ xs) x ys = get_end xs x ys

-- an item of a list with one more
pub data PushCases {X : Type 0} (xs : List X) (new : X) (i : ℕ) (x : X) : Type 0 where
  Before : slice_get xs i ≡ Some x → PushCases xs new i x
  Last : i ≡ length xs → x ≡ new → PushCases xs new i x

pub get_push : {X : Type 0} (xs : List X) (new : X) (i : ℕ) (x : X) → slice_get (xs ++ new ∷ []) i ≡ Some x → PushCases xs new i x
get_push {X} [] new zero x e = Last refl (some_is x new e) where
  some_is : (a b : X) → ◌≡◌ {A = Option X} (Some b) (Some a) → a ≡ b
  some_is a b e = cc
get_push [] new (suc i) x e = absurd cc
get_push (z ∷ xs) new zero x e = Before e
get_push {X} (z ∷ xs) new (suc i) x e = go (get_push xs new i x e) where
  go : PushCases xs new i x → PushCases (z ∷ xs) new (suc i) x
  go (Before is) = Before is
  go (Last at is) = Last (ap suc at) is

-- what is found in a front is found first
pub found_front : {X : Type 0} (test : X → Bool) (xs ys : List X) (x : X) → find test xs ≡ Some x → find test (xs ++ ys) ≡ Some x
found_front test [] ys x e = absurd cc
found_front {X} test (z ∷ xs) ys x e = go (found_front test xs ys x) (test z) e where
  go : (find test xs ≡ Some x → find test (xs ++ ys) ≡ Some x) → (b : Bool) → cond b (Some z) (find test xs) ≡ Some x → cond b (Some z) (find test (xs ++ ys)) ≡ Some x
  go ih true e' = e'
  go ih false e' = ih e'

pub found_begins : {X : Type 0} (test : X → Bool) (xs ys : List X) → Begins xs ys → (x : X) → find test xs ≡ Some x → find test ys ≡ Some x
found_begins test xs ys b x e = subst (λ l. find test l ≡ Some x) (sym b.is) (found_front test xs b.more x e)

pub any_front : {X : Type 0} (test : X → Bool) (xs ys : List X) → list_any test xs ≡ true → list_any test (xs ++ ys) ≡ true
any_front test [] ys e = absurd cc
any_front {X} test (z ∷ xs) ys e = go (any_front test xs ys) (test z) e where
  go : (list_any test xs ≡ true → list_any test (xs ++ ys) ≡ true) → (b : Bool) → (b || list_any test xs) ≡ true → (b || list_any test (xs ++ ys)) ≡ true
  go ih true e' = refl
  go ih false e' = ih e'

pub any_begins : {X : Type 0} (test : X → Bool) (xs ys : List X) → Begins xs ys → list_any test xs ≡ true → list_any test ys ≡ true
any_begins test xs ys b e = subst (λ l. list_any test l ≡ true) (sym b.is) (any_front test xs b.more e)

-- as much of the front
pub take_front : {X : Type 0} (k : ℕ) (xs ys : List X) → k ≤ length xs → take k (xs ++ ys) ≡ take k xs
take_front zero xs ys h = refl
take_front (suc k) [] ys h = absurd (omega (arith, h))
take_front (suc k) (x ∷ xs) ys h = ap (λ l. x ∷ l) (take_front k xs ys (omega (arith, h)))

pub take_whole : {X : Type 0} (xs : List X) → take (length xs) xs ≡ xs
take_whole [] = refl
take_whole (x ∷ xs) = ap (λ l. x ∷ l) (take_whole xs)

pub take_begins : {X : Type 0} (k : ℕ) (xs ys : List X) → Begins xs ys → k ≤ length xs → take k ys ≡ take k xs
take_begins k xs ys b h = ap (take k) b.is ∙ take_front k xs b.more h

pub all_take : {X : Type 0} (P : X → Type 0) (k : ℕ) (xs : List X) → AllByRecursion P xs → AllByRecursion P (take k xs)
all_take P zero xs h = tt
all_take P (suc k) [] h = tt
all_take P (suc k) (x ∷ xs) h = (h.0, all_take P k xs h.1)

pub all_push : {X : Type 0} (P : X → Type 0) (xs : List X) (x : X) → AllByRecursion P xs → P x → AllByRecursion P (xs ++ x ∷ [])
all_push P [] x h p = (p, tt)
all_push P (z ∷ xs) x h p = (h.0, all_push P xs x h.1 p)

pub all_weaker : {X : Type 0} (P Q : X → Type 0) → ((x : X) → P x → Q x) → (xs : List X) → AllByRecursion P xs → AllByRecursion Q xs
all_weaker P Q weaker [] h = tt
all_weaker P Q weaker (x ∷ xs) h = (weaker x h.0, all_weaker P Q weaker xs h.1)

-- a place that was written, and another
pub set_same : {X : Type 0} (xs : List X) (i : ℕ) (old new : X) → slice_get xs i ≡ Some old → slice_get (set xs i new) i ≡ Some new
set_same [] i old new e = absurd cc
set_same (x ∷ xs) zero old new e = refl
set_same (x ∷ xs) (suc i) old new e = set_same xs i old new e

pub set_other : {X : Type 0} (xs : List X) (i j : ℕ) (new : X) → (j ≡ i → ⊥) → slice_get (set xs i new) j ≡ slice_get xs j
set_other [] i j new ne = refl
set_other (x ∷ xs) zero zero new ne = absurd (ne refl)
set_other (x ∷ xs) zero (suc j) new ne = refl
set_other (x ∷ xs) (suc i) zero new ne = refl
set_other (x ∷ xs) (suc i) (suc j) new ne = set_other xs i j new (λ e. ne (ap suc e))

-- What is found of an attempt in lists that grow at their ends.
use Rattle.std.proofs.Common.{◌≡◌, ℕ, zero, suc, ◌+◌, ◌-◌, ◌≤◌, Bool, true, false, cond, Option, None, Some, List, [], ◌∷◌, ◌++◌, length, drop, refl, sym, ap, ◌∙◌, arith}
use Rattle.std.specs.Prelude.{◌||◌, slice_get, slice_set}
use Rattle.std.specs.List.{find, list_any, count_by}
use Rattle.std.specs.Option.{option_map, option_map_or}
use Rattle.rp_base.proofs.Counts.{count_cons}
use Rattle.rp_base.specs.Ids.{same_id}
use Rattle.rp_base.specs.declared.ids.CmdId.{CmdId}
use Rattle.rp_request.specs.declared.outcomes.Outcome.{Outcome}
use Rattle.rp_request.specs.declared.outcomes.Outcome.TheVariants as outcomes
use Rattle.rp_events.specs.declared.answers.Ended.{Ended}
use Rattle.rp_events.specs.Worlds.{ended_of}
use Rattle.rp_book.specs.Books.{last_of}
use Rattle.rp_journals.proofs.Lists.{get_end}
use Rattle.rp_journals.proofs.Counting.{one_if}
use Rattle.rp_told.specs.Outcomes.{retold}

or_apart : (a b c : Bool) → ((a || b) || c) ≡ (a || (b || c))
or_apart true b c = refl
or_apart false b c = refl

or_turned : (a b c : Bool) → (a || (b || c)) ≡ (b || (a || c))
or_turned true true c = refl
or_turned true false c = refl
or_turned false b c = refl

-- one item more at the end
pub any_push : {X : Type 0} (test : X → Bool) (xs : List X) (x : X) → list_any test (xs ++ x ∷ []) ≡ (test x || list_any test xs)
any_push test [] x = refl
any_push test (z ∷ xs) x = ap (λ b. test z || b) (any_push test xs x) ∙ or_turned (test z) (test x) (list_any test xs)

-- one item changes, and passes where it did, or where this holds
pub any_set : {X : Type 0} (test : X → Bool) (xs : List X) (place : ℕ) (old new : X) (more : Bool) → slice_get xs place ≡ Some old → test new ≡ (more || test old)
    → list_any test (slice_set xs place new) ≡ (more || list_any test xs)
any_set test [] place old new more at is = absurd cc
any_set {X} test (x ∷ xs) zero old new more at is =
    ap (λ b. b || list_any test xs) (is ∙ ap (λ y. more || test y) (sym (some_is x old at))) ∙ or_apart more (test x) (list_any test xs)
  where
    some_is : (a b : X) → ◌≡◌ {A = Option X} (Some a) (Some b) → a ≡ b
    some_is a b e = cc
any_set test (x ∷ xs) (suc place) old new more at is =
    ap (λ b. test x || b) (any_set test xs place old new more at is) ∙ or_turned (test x) more (list_any test xs)

-- the last of a list that has one more at its end
pub last_push : {X : Type 0} (xs : List X) (x : X) → last_of (xs ++ x ∷ []) ≡ Some x
last_push {X} xs x = ap (slice_get (xs ++ x ∷ [])) one_less ∙ get_end xs x [] where
  long : (ys : List X) → length (ys ++ x ∷ []) ≡ length ys + 1
  long [] = refl
  long (y ∷ ys) = let more = long ys in omega (arith, more)

  one_less : length (xs ++ x ∷ []) - 1 ≡ length xs
  one_less = let l = long xs in omega (arith, l)

-- what no item passes is not found; what is not found in front is found behind
pub uncounted_none : {X : Type 0} (test : X → Bool) (xs : List X) → count_by test xs ≡ 0 → find test xs ≡ None
uncounted_none test [] e = refl
uncounted_none {X} test (x ∷ xs) e = go (test x) refl (uncounted_none test xs) where
  go : (b : Bool) → test x ≡ b → (count_by test xs ≡ 0 → find test xs ≡ None) → cond b (Some x) (find test xs) ≡ None
  go true is ih = absurd (let k = count_cons test x xs in let one : one_if (test x) ≡ 1 = ap one_if is in omega (arith, k, one, e))
  go false is ih = ih (let k = count_cons test x xs in let none : one_if (test x) ≡ 0 = ap one_if is in omega (arith, k, none, e))

pub found_none : {X : Type 0} (test : X → Bool) (xs : List X) → list_any test xs ≡ false → find test xs ≡ None
found_none test [] e = refl
found_none {X} test (x ∷ xs) e = go (test x) e (found_none test xs) where
  go : (b : Bool) → (b || list_any test xs) ≡ false → (list_any test xs ≡ false → find test xs ≡ None) → cond b (Some x) (find test xs) ≡ None
  go true e' ih = absurd cc
  go false e' ih = ih e'

pub found_some : {X : Type 0} (test : X → Bool) (xs : List X) → list_any test xs ≡ true → (x : X) × (find test xs ≡ Some x)
found_some test [] e = absurd cc
found_some {X} test (x ∷ xs) e = go (test x) e (found_some test xs) where
  go : (b : Bool) → (b || list_any test xs) ≡ true → (list_any test xs ≡ true → (y : X) × (find test xs ≡ Some y)) → (y : X) × (cond b (Some x) (find test xs) ≡ Some y)
  go true e' ih = (x, refl)
  go false e' ih = ih e'

pub find_behind : {X : Type 0} (test : X → Bool) (xs ys : List X) → find test xs ≡ None → find test (xs ++ ys) ≡ find test ys
find_behind test [] ys e = refl
find_behind {X} test (x ∷ xs) ys e = go (test x) e (find_behind test xs ys) where
  go : (b : Bool) → cond b (Some x) (find test xs) ≡ None → (find test xs ≡ None → find test (xs ++ ys) ≡ find test ys) → cond b (Some x) (find test (xs ++ ys)) ≡ find test ys
  go true e' ih = absurd cc
  go false e' ih = ih e'

pub drop_whole : {X : Type 0} (xs : List X) → drop (length xs) xs ≡ []
drop_whole [] = refl
drop_whole (x ∷ xs) = drop_whole xs

-- the ends of an attempt in a list
abbrev pub times_in : CmdId → List Ended → ℕ
times_in id es = count_by (λ e. same_id e.id id) es

-- further ends without the attempt leave it as it was
pub retold_same : (id : CmdId) (es : List Ended) (before : Option Outcome) → times_in id es ≡ 0 → retold id es before ≡ before
retold_same id [] before e = refl
retold_same id (x ∷ es) before e = go (same_id x.id id) refl (retold_same id es before) where
  k : times_in id (x ∷ es) ≡ one_if (same_id x.id id) + times_in id es
  k = count_cons (λ (y : Ended). same_id y.id id) x es

  go : (b : Bool) → same_id x.id id ≡ b → (times_in id es ≡ 0 → retold id es before ≡ before) → retold id es (cond b (Some x.outcome) before) ≡ before
  go true is ih = absurd (let one : one_if (same_id x.id id) ≡ 1 = ap one_if is in omega (arith, k, one, e))
  go false is ih = ih (let none : one_if (same_id x.id id) ≡ 0 = ap one_if is in omega (arith, k, none, e))

-- of ends with the attempt once at most its end is told
pub retold_once : (id : CmdId) (es : List Ended) → times_in id es ≤ 1
    → retold id es (Some outcomes.Pending) ≡ Some (option_map_or (λ (o : Outcome). o) (ended_of id es) outcomes.Pending)
retold_once id [] e = refl
retold_once id (x ∷ es) e = go (same_id x.id id) refl (retold_once id es) where
  k : times_in id (x ∷ es) ≡ one_if (same_id x.id id) + times_in id es
  k = count_cons (λ (y : Ended). same_id y.id id) x es

  go : (b : Bool) → same_id x.id id ≡ b → (times_in id es ≤ 1 → retold id es (Some outcomes.Pending) ≡ Some (option_map_or (λ (o : Outcome). o) (ended_of id es) outcomes.Pending))
      → retold id es (cond b (Some x.outcome) (Some outcomes.Pending))
      ≡ Some (option_map_or (λ (o : Outcome). o) (option_map (λ (y : Ended). y.outcome) (cond b (Some x) (find (λ (y : Ended). same_id y.id id) es))) outcomes.Pending)
  go true is ih = retold_same id es (Some x.outcome) (let one : one_if (same_id x.id id) ≡ 1 = ap one_if is in omega (arith, k, one, e))
  go false is ih = ih (omega (arith, k, e))

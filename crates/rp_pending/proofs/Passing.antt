-- One slot changes or comes, and slots are gone through from the first on.
use Rattle.std.proofs.Common.{◌≡◌, ◌≢◌, ℕ, zero, suc, ◌+◌, ◌-◌, ◌*◌, ◌<◌, ◌≤◌, Bool, true, false, cond, not, nat_lt, List, [], ◌∷◌, ◌++◌, length, take, filter, filter_map, Option, None, Some, refl, ap, sym, ◌∙◌, arith}
use Rattle.std.specs.Prelude.{slice_get, position, is_some, Result, Ok, Err, OnOk}
use Rattle.std.proofs.lemmas.Bool.Decides.{nat_tests}
use Rattle.std.specs.Option.{option_and_then}
use Rattle.std.specs.List.{cons_option, position_or_len}
use Rattle.std.specs.Map.{keys_of, remove_entry}
use Rattle.rp_base.specs.declared.ids.CmdId.{CmdId}
use Rattle.rp_base.specs.Ids.{same_id}
use Rattle.rp_pending.specs.declared.bounds.Bound.{Bound}
use Rattle.rp_pending.specs.declared.bounds.Wanted.{Wanted}
use Rattle.rp_pending.specs.declared.proposals.Proposal.{Proposal}
use Rattle.rp_pending.specs.declared.refreshes.Due.{Due}
use Rattle.rp_pending.specs.Bounds.{seen, wanted_of, Covers, CoversBut}
use Rattle.rp_pending.specs.Slots.{Slot, proposals_in, slot_of, with_slot}

-- where one place alone changes, the bounds of the others hold
pub but_there : (narrow : List Bound) (es fs : List Slot) (place : ℕ) → Covers narrow es → ((j : ℕ) → j ≢ place → slice_get fs j ≡ slice_get es j) → CoversBut place narrow fs
but_there narrow es fs place covers same k j s lt other get = covers k j s lt (sym (same (k * 32 + j) other) ∙ get)

-- a write to the slot of an id leaves the slots at other places
with_other : (id : CmdId) (es : List Slot) (x : Option Proposal) (j : ℕ) → j ≢ position_or_len (same_id id) (keys_of es) → slice_get (with_slot id es x) j ≡ slice_get es j
with_other id [] x j other = refl
with_other id (e ∷ es) x zero other = by (same_id id e.0) other
  where
    by : (b : Bool) → 0 ≢ cond (not b) (1 + position_or_len (same_id id) (keys_of es)) 0 → slice_get (cond b ((e.0, x) ∷ es) (e ∷ with_slot id es x)) 0 ≡ Some e
    by true h = absurd (h refl)
    by false h = refl
with_other id (e ∷ es) x (suc j) other = by (same_id id e.0) other (with_other id es x j)
  where
    by : (b : Bool) → suc j ≢ cond (not b) (1 + position_or_len (same_id id) (keys_of es)) 0
        → (j ≢ position_or_len (same_id id) (keys_of es) → slice_get (with_slot id es x) j ≡ slice_get es j)
        → slice_get (cond b ((e.0, x) ∷ es) (e ∷ with_slot id es x)) (suc j) ≡ slice_get es j
    by true h ih = refl
    by false h ih = ih (λ same. h (omega (arith, same)))

place_is : {X : Type 0} (p : X → Bool) (xs : List X) (i : ℕ) → position p xs ≡ Some i → (position_or_len p xs ≡ i) × (i < length xs)
place_is p xs i e = by (nat_lt (position_or_len p xs) (length xs)) refl e
  where
    by : (b : Bool) → nat_lt (position_or_len p xs) (length xs) ≡ b → cond b (Some (position_or_len p xs)) None ≡ Some i → (position_or_len p xs ≡ i) × (i < length xs)
    by true t h = let same : position_or_len p xs ≡ i = cc in let less : position_or_len p xs < length xs = grind (arith, nat_tests) in (same, omega (arith, same, less))
    by false t h = cc

as_long : (id : CmdId) (es : List Slot) (x : Option Proposal) → length (with_slot id es x) ≡ length es
as_long id [] x = refl
as_long id (e ∷ es) x = by (same_id id e.0) (as_long id es x)
  where
    by : (b : Bool) → length (with_slot id es x) ≡ length es → length (cond b ((e.0, x) ∷ es) (e ∷ with_slot id es x)) ≡ suc (length es)
    by true ih = refl
    by false ih = ap suc ih

keys_as_long : (es : List Slot) → length (keys_of es) ≡ length es
keys_as_long [] = refl
keys_as_long (e ∷ es) = ap suc (keys_as_long es)

-- after a write to the slot at a place only that one may be unbounded, and the place is one of the slots'
pub written : (narrow : List Bound) (es fs : List Slot) (id : CmdId) (x : Option Proposal) (i : ℕ) → Covers narrow es → position (same_id id) (keys_of es) ≡ Some i → fs ≡ with_slot id es x
    → CoversBut i narrow fs × (i < length fs)
written narrow es fs id x i covers e is =
    let place = place_is (same_id id) (keys_of es) i e in (
      but_there narrow es fs i covers (λ j other. ap (λ gs. slice_get gs j) is ∙ with_other id es x j (λ same. other (same ∙ place.0))),
      omega (arith, place.1, keys_as_long es, ap length is, as_long id es x),
    )

-- the same where the write depends on the slot
pub changed_there : (narrow : List Bound) (es fs : List Slot) (id : CmdId) (f : Option Proposal → Option Proposal) (i : ℕ) → Covers narrow es → position (same_id id) (keys_of es) ≡ Some i
    → true ≡ is_some (slot_of id es) → ((slot : Option Proposal) → slot_of id es ≡ Some slot → fs ≡ with_slot id es (f slot)) → CoversBut i narrow fs × (i < length fs)
changed_there narrow es fs id f i covers e found is = by (slot_of id es) refl found
  where
    by : (o : Option (Option Proposal)) → slot_of id es ≡ o → true ≡ is_some o → CoversBut i narrow fs × (i < length fs)
    by None q h = cc
    by (Some slot) q h = written narrow es fs id (f slot) i covers e (is slot q)

no_slot_there : (o : Option (Option Proposal)) → false ≡ is_some o → o ≡ None
no_slot_there None e = refl
no_slot_there (Some slot) e = cc

-- an id that has no place has no slot
pub none_there : (id : CmdId) (es : List Slot) → false ≡ is_some (slot_of id es) → slot_of id es ≡ None
none_there id es e = no_slot_there (slot_of id es) e

-- what is as long as before has lost nothing
cut_less : {X : Type 0} (p : X → Bool) (xs : List X) → length (filter p xs) ≤ length xs
cut_less p [] = omega arith
cut_less p (x ∷ xs) = by (p x) (cut_less p xs)
  where
    by : (b : Bool) → length (filter p xs) ≤ length xs → length (cond b (x ∷ filter p xs) (filter p xs)) ≤ suc (length xs)
    by true ih = omega arith
    by false ih = omega arith

pub none_cut : {X : Type 0} (p : X → Bool) (xs : List X) → length (filter p xs) ≡ length xs → filter p xs ≡ xs
none_cut p [] e = refl
none_cut p (x ∷ xs) e = by (p x) e (none_cut p xs)
  where
    by : (b : Bool) → length (cond b (x ∷ filter p xs) (filter p xs)) ≡ suc (length xs) → (length (filter p xs) ≡ length xs → filter p xs ≡ xs)
        → cond b (x ∷ filter p xs) (filter p xs) ≡ x ∷ xs
    by true h ih = ap (λ ys. x ∷ ys) (ih (omega (arith, h)))
    by false h ih = absurd (omega (arith, h, cut_less p xs))

pub none_taken : (id : CmdId) (es : List Slot) → length (remove_entry (same_id id) es) ≡ length es → remove_entry (same_id id) es ≡ es
none_taken id [] e = refl
none_taken id (s ∷ es) e = by (same_id id s.0) e (none_taken id es)
  where
    by : (b : Bool) → length (cond b es (s ∷ remove_entry (same_id id) es)) ≡ suc (length es) → (length (remove_entry (same_id id) es) ≡ length es → remove_entry (same_id id) es ≡ es)
        → cond b es (s ∷ remove_entry (same_id id) es) ≡ s ∷ es
    by true h ih = absurd (omega (arith, h))
    by false h ih = ap (λ xs. s ∷ xs) (ih (omega (arith, h)))

-- slots that are gone through
module _ (g : Slot → Option Due) where
  nothing_from : (es : List Slot) (n : ℕ) → ((j : ℕ) (s : Slot) → j < n → slice_get es j ≡ Some s → g s ≡ None) → filter_map g (take n es) ≡ []
  nothing_from es zero h = refl
  nothing_from [] (suc n) h = refl
  nothing_from (e ∷ es) (suc n) h = ap (λ o. cons_option o (filter_map g (take n es))) (h 0 e (omega arith) refl) ∙ nothing_from es n (λ j s lt get. h (suc j) s (omega (arith, lt)) get)

  pub passed_over : (es : List Slot) (at to : ℕ) → at ≤ to → ((i : ℕ) (s : Slot) → at ≤ i → i < to → slice_get es i ≡ Some s → g s ≡ None)
      → filter_map g (take to es) ≡ filter_map g (take at es)
  passed_over es zero to le h = nothing_from es to (λ j s lt get. h j s (omega arith) lt get)
  passed_over es (suc at) zero le h = absurd (omega (arith, le))
  passed_over [] (suc at) (suc to) le h = refl
  passed_over (e ∷ es) (suc at) (suc to) le h =
      ap (cons_option (g e)) (passed_over es at to (omega (arith, le)) (λ i s from lt get. h (suc i) s (omega (arith, from)) (omega (arith, lt)) get))

  more_to : (o : Option Due) (xs ys : List Due) → cons_option o (xs ++ ys) ≡ cons_option o xs ++ ys
  more_to None xs ys = refl
  more_to (Some x) xs ys = refl

  pub looked_at : (es : List Slot) (at : ℕ) (s : Slot) → slice_get es at ≡ Some s → filter_map g (take (suc at) es) ≡ filter_map g (take at es) ++ cons_option (g s) []
  looked_at [] at s e = cc
  looked_at (x ∷ es) zero s e = let same : x ≡ s = cc in ap (λ y. cons_option (g y) []) same
  looked_at (x ∷ es) (suc at) s e = ap (cons_option (g x)) (looked_at es at s e) ∙ more_to (g x) (filter_map g (take at es)) (cons_option (g s) [])

-- of the slots that of the proposals
pub seen_all : (f : Proposal → Option Due) (es : List Slot) → filter_map (λ (s : Slot). option_and_then f s.1) es ≡ filter_map f (proposals_in es)
seen_all f [] = refl
seen_all f ((k, None) ∷ es) = seen_all f es
seen_all f ((k, Some p) ∷ es) = ap (cons_option (f p)) (seen_all f es)

pub whole : (es : List Slot) (n : ℕ) → length es ≤ n → take n es ≡ es
whole [] zero h = refl
whole [] (suc n) h = refl
whole (e ∷ es) zero h = absurd (omega (arith, h))
whole (e ∷ es) (suc n) h = ap (λ xs. e ∷ xs) (whole es n (omega (arith, h)))

-- what a step adds
pub over : (wanted : Wanted) (es : List Slot) (at n : ℕ) → ((j : ℕ) (s : Slot) → j < n → slice_get es (at + j) ≡ Some s → option_and_then (wanted_of wanted) s.1 ≡ None)
    → seen wanted (take (at + n) es) ≡ seen wanted (take at es)
over wanted es at n h =
    passed_over (λ s. option_and_then (wanted_of wanted) s.1) es at (at + n) (omega arith)
    (λ i s from lt get. let place : i ≡ at + (i - at) = omega (arith, from) in h (i - at) s (omega (arith, from, lt)) (ap (slice_get es) (sym place) ∙ get))

pub one : (wanted : Wanted) (es : List Slot) (at : ℕ) (s : Slot) → slice_get es at ≡ Some s
    → seen wanted (take (at + 1) es) ≡ seen wanted (take at es) ++ cons_option (option_and_then (wanted_of wanted) s.1) []
one wanted es at s e =
    let next : at + 1 ≡ suc at = omega arith in
    ap (λ n. seen wanted (take n es)) next ∙ looked_at (λ s. option_and_then (wanted_of wanted) s.1) es at s e

pub pushed : {E : Type 0} (result : Result (Unit {0}) E) (olds news : List Due) (wanted : Wanted) (es : List Slot) (at : ℕ) (s : Slot) → slice_get es at ≡ Some s
    → OnOk result (news ≡ olds ++ cons_option (option_and_then (wanted_of wanted) s.1) []) → OnOk result (olds ≡ seen wanted (take at es) → news ≡ seen wanted (take (at + 1) es))
pushed (Ok done) olds news wanted es at s e more = λ so_far. more ∙ ap (λ ds. ds ++ cons_option (option_and_then (wanted_of wanted) s.1) []) so_far ∙ sym (one wanted es at s e)
pushed (Err fault) olds news wanted es at s e more = more

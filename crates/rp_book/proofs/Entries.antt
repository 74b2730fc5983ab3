-- What is done to the attempts that the book keeps is done to its bookings and to what was told.
use Rattle.std.proofs.Common.{◌≡◌, ℕ, zero, suc, ◌+◌, ◌<◌, ◌≤◌, Bool, true, false, cond, map, length, take, List, [], ◌∷◌, ◌++◌, arith, Option, None, Some, refl, sym, ap, subst, ◌∙◌}
use Rattle.std.specs.BTreeMap.{insert_entry}
use Rattle.std.specs.BTreeSet.{insert_key}
use Rattle.std.specs.List.{fold}
use Rattle.std.specs.Ordering.{match_ordering}
use Rattle.std.specs.declared.cmp.Ordering.{Ordering}
use Rattle.std.specs.declared.cmp.Ordering.TheVariants.{Less, Equal, Greater}
use Rattle.std.specs.Map.{lookup, set_value, keys_of}
use Rattle.std.specs.Option.{option_map}
use Rattle.rp_base.specs.declared.ids.CmdId.{CmdId}
use Rattle.rp_base.specs.Ids.{cmd_cmp, same_id}
use Rattle.rp_base.proofs.IdLaws.{same_is, same_itself, same_back}
use Rattle.std.specs.Prelude.{slice_get, Result, Ok, Err, OnOk}
use Rattle.std.proofs.lemmas.List.Sums.{fold-append}
use Rattle.std.proofs.lemmas.Map.{keys-set_value}
use Rattle.rp_request.specs.declared.outcomes.Outcome.{Outcome}
use Rattle.rp_book.specs.declared.bookings.Booked.{Booked}
use Rattle.rp_book.specs.declared.bookings.Draw.{Draw}
use Rattle.rp_book.specs.declared.keeps.Kept.{Kept}
use Rattle.rp_book.specs.declared.keeps.Kept.TheVariants.{Attempt}
use Rattle.rp_book.specs.Books.{Book, Told, booked, booking_of, by_attempt, reply_of, told_of}
use Rattle.rp_book.specs.Keeping.{Keeps, booking_in, bookings, in_order, line_of, outcome_in, outcomes, with_draw, with_outcome}

-- a look-up goes through a map of the values
pub at_mapped : {A B : Type 0} (f : A → B) (test : CmdId → Bool) (es : List (CmdId × A)) → lookup test (map (λ e. (e.0, f e.1)) es) ≡ option_map f (lookup test es)
at_mapped f test [] = refl
at_mapped f test (e ∷ es) = by (test e.0) (at_mapped f test es)
  where
    by : (b : Bool) → lookup test (map (λ e. (e.0, f e.1)) es) ≡ option_map f (lookup test es)
        → cond b (Some (f e.1)) (lookup test (map (λ e. (e.0, f e.1)) es)) ≡ option_map f (cond b (Some e.1) (lookup test es))
    by true ih = refl
    by false ih = ih

pub none_below_map : {A B : Type 0} (f : A → B) (o : Option A) → option_map f o ≡ None → o ≡ None
none_below_map f None h = refl
none_below_map f (Some x) h = cc

-- a look-up does not both find and miss
pub none_not_some : {X goal : Type 0} (o : Option X) (x : X) → o ≡ None → o ≡ Some x → goal
none_not_some o x n s = absurd cc

-- what lacks an attempt as a booking lacks it
pub no_booking : (id : CmdId) (es : Keeps) → booking_of id (bookings es) ≡ None → lookup (same_id id) es ≡ None
no_booking id es h = none_below_map booking_in (lookup (same_id id) es) (sym (at_mapped booking_in (same_id id) es) ∙ h)

cond_none : {X : Type 0} (b : Bool) (x : X) (r : Option X) → cond b (Some x) r ≡ None → (b ≡ false) × (r ≡ None)
cond_none true x r h = cc
cond_none false x r h = (refl, h)

-- a new attempt goes behind the others
pub put_behind : (id : CmdId) (k : Kept) (es : Keeps) → lookup (same_id id) es ≡ None → bookings (es ++ (id, k) ∷ []) ≡ booked id (booking_in k) (bookings es)
put_behind id k [] h = refl
put_behind id k (e ∷ es) h =
    let c = cond_none (same_id id e.0) e.1 (lookup (same_id id) es) h in
    ap (λ bs. (e.0, booking_in e.1) ∷ bs) (put_behind id k es c.1)
    ∙ sym (ap (λ b. cond b ((e.0, (booking_in k)) ∷ bookings es) ((e.0, booking_in e.1) ∷ booked id (booking_in k) (bookings es))) c.0)

pub keys_behind : (id : CmdId) (k : Kept) (es : Keeps) → keys_of (es ++ (id, k) ∷ []) ≡ keys_of es ++ id ∷ []
keys_behind id k [] = refl
keys_behind id k (e ∷ es) = ap (λ ids. e.0 ∷ ids) (keys_behind id k es)

-- the values of attempts, as one is set in its place
pub set_booking : (id : CmdId) (k was : Kept) (es : Keeps) → lookup (same_id id) es ≡ Some was → bookings (set_value (same_id id) es k) ≡ booked id (booking_in k) (bookings es)
set_booking id k was [] h = cc
set_booking id k was (e ∷ es) h = by (same_id id e.0) h (set_booking id k was es)
  where
    by : (b : Bool) → cond b (Some e.1) (lookup (same_id id) es) ≡ Some was
        → (lookup (same_id id) es ≡ Some was → bookings (set_value (same_id id) es k) ≡ booked id (booking_in k) (bookings es))
        → bookings (cond b ((e.0, k) ∷ es) (e ∷ set_value (same_id id) es k)) ≡ cond b ((e.0, (booking_in k)) ∷ bookings es) ((e.0, booking_in e.1) ∷ booked id (booking_in k) (bookings es))
    by true h ih = refl
    by false h ih = ap (λ bs. (e.0, booking_in e.1) ∷ bs) (ih h)

-- the attempts with a part of what is kept of each
abbrev part_of : {B : Type 0} → (Kept → B) → CmdId × Kept → CmdId × B
part_of f e = (e.0, f e.1)

-- where that part of an attempt stays, it stays in the list
pub set_part : {B : Type 0} (f : Kept → B) (id : CmdId) (k was : Kept) (es : Keeps) → lookup (same_id id) es ≡ Some was → f k ≡ f was
    → map (part_of f) (set_value (same_id id) es k) ≡ map (part_of f) es
set_part f id k was [] h same = refl
set_part f id k was (e ∷ es) h same = by (same_id id e.0) h (λ h. set_part f id k was es h same)
  where
    by : (b : Bool) → cond b (Some e.1) (lookup (same_id id) es) ≡ Some was
        → (lookup (same_id id) es ≡ Some was → map (part_of f) (set_value (same_id id) es k) ≡ map (part_of f) es)
        → map (part_of f) (cond b ((e.0, k) ∷ es) (e ∷ set_value (same_id id) es k)) ≡ map (part_of f) (e ∷ es)
    by true h ih = let is : e.1 ≡ was = cc in λ i. (e.0, (same ∙ sym (ap f is)) i) ∷ map (part_of f) es
    by false h ih = ap (λ bs. part_of f e ∷ bs) (ih h)

-- what was told, as an attempt is put behind the others
pub told_behind : (id other : CmdId) (k : Kept) (es : Keeps) → lookup (same_id id) es ≡ None
    → told_of other (outcomes (es ++ (id, k) ∷ [])) ≡ cond (same_id other id) (Some (outcome_in k)) (told_of other (outcomes es))
told_behind id other k [] h = refl
told_behind id other k (e ∷ es) h =
    let c = cond_none (same_id id e.0) e.1 (lookup (same_id id) es) h in
    by (same_id other e.0) refl (same_id other id) refl c.0 (told_behind id other k es c.1)
  where
    by : (b : Bool) → same_id other e.0 ≡ b → (d : Bool) → same_id other id ≡ d → same_id id e.0 ≡ false
        → told_of other (outcomes (es ++ (id, k) ∷ [])) ≡ cond (same_id other id) (Some (outcome_in k)) (told_of other (outcomes es))
        → cond b (Some (outcome_in e.1)) (told_of other (outcomes (es ++ (id, k) ∷ []))) ≡ cond d (Some (outcome_in k)) (cond b (Some (outcome_in e.1)) (told_of other (outcomes es)))
    by true be true de apart ih = absurd (
        let is : other ≡ id = same_is other id de in
        let yes : same_id id e.0 ≡ true = subst (λ x. same_id x e.0 ≡ true) is be in cc)
    by true be false de apart ih = refl
    by false be true de apart ih = ih ∙ ap (λ d. cond d (Some (outcome_in k)) (told_of other (outcomes es))) de
    by false be false de apart ih = ih ∙ ap (λ d. cond d (Some (outcome_in k)) (told_of other (outcomes es))) de

-- what was told, as one thing is told
pub told_set : (id other : CmdId) (k was : Kept) (es : Keeps) → lookup (same_id id) es ≡ Some was
    → told_of other (outcomes (set_value (same_id id) es k)) ≡ cond (same_id id other) (option_map (λ _. (outcome_in k)) (told_of other (outcomes es))) (told_of other (outcomes es))
told_set id other k was [] h = cc
told_set id other k was (e ∷ es) h = by (same_id id e.0) refl (same_id other e.0) refl (same_id id other) refl h (told_set id other k was es)
  where
    by : (b : Bool) → same_id id e.0 ≡ b → (d : Bool) → same_id other e.0 ≡ d → (s : Bool) → same_id id other ≡ s
        → cond b (Some e.1) (lookup (same_id id) es) ≡ Some was
        → (lookup (same_id id) es ≡ Some was → told_of other (outcomes (set_value (same_id id) es k)) ≡ cond (same_id id other) (option_map (λ _. (outcome_in k)) (told_of other (outcomes es))) (told_of other (outcomes es)))
        → told_of other (outcomes (cond b ((e.0, k) ∷ es) (e ∷ set_value (same_id id) es k)))
        ≡ cond s (option_map (λ _. (outcome_in k)) (cond d (Some (outcome_in e.1)) (told_of other (outcomes es)))) (cond d (Some (outcome_in e.1)) (told_of other (outcomes es)))
    by true be true de true se h ih = ap (λ t. cond t (Some (outcome_in k)) (told_of other (outcomes es))) de
    by true be true de false se h ih = absurd (
        let a : id ≡ e.0 = same_is id e.0 be in let b : other ≡ e.0 = same_is other e.0 de in
        let yes : same_id id other ≡ true = subst (λ x. same_id id x ≡ true) (a ∙ sym b) (same_itself id) in cc)
    by true be false de true se h ih = absurd (
        let a : id ≡ other = same_is id other se in
        let yes : same_id other e.0 ≡ true = subst (λ x. same_id x e.0 ≡ true) a be in cc)
    by true be false de false se h ih = ap (λ t. cond t (Some (outcome_in k)) (told_of other (outcomes es))) de
    by false be true de true se h ih = absurd (
        let a : id ≡ other = same_is id other se in
        let yes : same_id id e.0 ≡ true = subst (λ x. same_id x e.0 ≡ true) (sym a) de in cc)
    by false be true de false se h ih = ap (λ t. cond t (Some (outcome_in e.1)) (told_of other (outcomes (set_value (same_id id) es k)))) de
    by false be false de true se h ih = ap (λ t. cond t (Some (outcome_in e.1)) (told_of other (outcomes (set_value (same_id id) es k)))) de ∙ ih h
        ∙ ap (λ t. cond t (option_map (λ _. (outcome_in k)) (told_of other (outcomes es))) (told_of other (outcomes es))) se
    by false be false de false se h ih = ap (λ t. cond t (Some (outcome_in e.1)) (told_of other (outcomes (set_value (same_id id) es k)))) de ∙ ih h
        ∙ ap (λ t. cond t (option_map (λ _. (outcome_in k)) (told_of other (outcomes es))) (told_of other (outcomes es))) se

-- nothing is told of an attempt that is not there
pub told_none : (id other : CmdId) (es : Keeps) → lookup (same_id id) es ≡ None → same_id id other ≡ true → told_of other (outcomes es) ≡ None
told_none id other es h s =
    subst (λ x. told_of x (outcomes es) ≡ None) (same_is id other s)
    (at_mapped outcome_in (same_id id) es ∙ ap (option_map outcome_in) h)

-- how far an attempt has come is part of its booking alone, what was told is apart from it
booking_drawn : (draw : Draw) (k : Kept) → booking_in (with_draw draw k) ≡ record (booking_in k) { draw = draw }
booking_drawn draw (Attempt b o) = refl

outcome_drawn : (draw : Draw) (k : Kept) → outcome_in (with_draw draw k) ≡ outcome_in k
outcome_drawn draw (Attempt b o) = refl

booking_told : (outcome : Outcome) (k : Kept) → booking_in (with_outcome outcome k) ≡ booking_in k
booking_told outcome (Attempt b o) = refl

outcome_told : (outcome : Outcome) (k : Kept) → outcome_in (with_outcome outcome k) ≡ outcome
outcome_told outcome (Attempt b o) = refl

-- an attempt's kept value has changed in its place, or it was not there
pub record Changed (id : CmdId) (f : Kept → Kept) (es new : Keeps) : Type 0 where
  pub none : lookup (same_id id) es ≡ None → new ≡ es
  pub some : (k : Kept) → lookup (same_id id) es ≡ Some k → new ≡ set_value (same_id id) es (f k)

pub keys_stay : (id : CmdId) (f : Kept → Kept) (es new : Keeps) → Changed id f es new → keys_of new ≡ keys_of es
keys_stay id f es new c = go (lookup (same_id id) es) refl where
  go : (o : Option Kept) → lookup (same_id id) es ≡ o → keys_of new ≡ keys_of es
  go None h = ap keys_of (c.none h)
  go (Some k) h = ap keys_of (c.some k h) ∙ keys-set_value (same_id id) es (f k)

-- a part that each change leaves stays in the list
pub part_stays : {B : Type 0} (part : Kept → B) (id : CmdId) (f : Kept → Kept) (es new : Keeps) → Changed id f es new → ((k : Kept) → part (f k) ≡ part k)
    → map (part_of part) new ≡ map (part_of part) es
part_stays part id f es new c stays = go (lookup (same_id id) es) refl where
  go : (o : Option Kept) → lookup (same_id id) es ≡ o → map (part_of part) new ≡ map (part_of part) es
  go None h = ap (map (part_of part)) (c.none h)
  go (Some k) h = ap (map (part_of part)) (c.some k h) ∙ set_part part id (f k) k es h (stays k)

pub drawn_none : (id : CmdId) (draw : Draw) (es new : Keeps) → Changed id (with_draw draw) es new → booking_of id (bookings es) ≡ None → bookings new ≡ bookings es
drawn_none id draw es new c h = ap bookings (c.none (no_booking id es h))

some_part : (o : Option Kept) (b : Booked) → option_map booking_in o ≡ Some b → (k : Kept) × (o ≡ Some k) × (booking_in k ≡ b)
some_part None b h = absurd cc
some_part (Some k) b h = (k, refl, cc)

pub drawn_some : (id : CmdId) (draw : Draw) (es new : Keeps) → Changed id (with_draw draw) es new → (b : Booked) → booking_of id (bookings es) ≡ Some b
    → bookings new ≡ booked id (record b { draw = draw }) (bookings es)
drawn_some id draw es new c b h =
    let k = some_part (lookup (same_id id) es) b (sym (at_mapped booking_in (same_id id) es) ∙ h) in
    ap bookings (c.some k.0 k.1) ∙ set_booking id (with_draw draw k.0) k.0 es k.1
    ∙ ap (λ v. booked id v (bookings es)) (booking_drawn draw k.0 ∙ ap (λ (v : Booked). record v { draw = draw }) k.2)

pub drawn_told : (id : CmdId) (draw : Draw) (es new : Keeps) → Changed id (with_draw draw) es new → (other : CmdId) → told_of other (outcomes new) ≡ told_of other (outcomes es)
drawn_told id draw es new c other = ap (told_of other) (part_stays outcome_in id (with_draw draw) es new c (outcome_drawn draw))

pub told_entries : (id : CmdId) (outcome : Outcome) (es new : Keeps) → Changed id (with_outcome outcome) es new → bookings new ≡ bookings es
told_entries id outcome es new c = part_stays booking_in id (with_outcome outcome) es new c (booking_told outcome)

pub told_now : (id : CmdId) (outcome : Outcome) (es new : Keeps) → Changed id (with_outcome outcome) es new → (other : CmdId)
    → told_of other (outcomes new) ≡ cond (same_id other id) (option_map (λ _. outcome) (told_of other (outcomes es))) (told_of other (outcomes es))
told_now id outcome es new c other = go (lookup (same_id id) es) refl where
  none : (b : Bool) → same_id other id ≡ b → lookup (same_id id) es ≡ None → told_of other (outcomes es) ≡ cond b (option_map (λ _. outcome) (told_of other (outcomes es))) (told_of other (outcomes es))
  none true s h = let no = told_none id other es h (same_back id other ∙ s) in no ∙ sym (ap (option_map (λ _. outcome)) no)
  none false s h = refl

  go : (o : Option Kept) → lookup (same_id id) es ≡ o → told_of other (outcomes new) ≡ cond (same_id other id) (option_map (λ _. outcome) (told_of other (outcomes es))) (told_of other (outcomes es))
  go None h = ap (λ l. told_of other (outcomes l)) (c.none h) ∙ none (same_id other id) refl h
  go (Some k) h = ap (λ l. told_of other (outcomes l)) (c.some k h) ∙ told_set id other (with_outcome outcome k) k es h ∙ ap (λ b. cond b (option_map (λ _. outcome_in (with_outcome outcome k)) (told_of other (outcomes es))) (told_of other (outcomes es))) (same_back id other) ∙ ap (λ o. cond (same_id other id) (option_map (λ _. o) (told_of other (outcomes es))) (told_of other (outcomes es))) (outcome_told outcome k)

-- the ids of a list of attempts in order are its ids in order
ids_inserted : {A : Type 0} (id : CmdId) (a : A) (es : List (CmdId × A)) → keys_of (insert_entry cmd_cmp es id a) ≡ insert_key cmd_cmp (keys_of es) id
ids_inserted id a [] = refl
ids_inserted id a (e ∷ es) = by (cmd_cmp id e.0) (ids_inserted id a es)
  where
    by : (o : Ordering) → keys_of (insert_entry cmd_cmp es id a) ≡ insert_key cmd_cmp (keys_of es) id
        → keys_of (match_ordering o ((id, a) ∷ e ∷ es) ((e.0, a) ∷ es) (e ∷ insert_entry cmd_cmp es id a)) ≡ match_ordering o (id ∷ e.0 ∷ keys_of es) (e.0 ∷ keys_of es) (e.0 ∷ insert_key cmd_cmp (keys_of es) id)
    by Less ih = refl
    by Equal ih = refl
    by Greater ih = ap (λ ids. e.0 ∷ ids) ih

pub ids_sorted : {A : Type 0} (done es : List (CmdId × A)) → keys_of (fold (λ sorted e. insert_entry cmd_cmp sorted e.0 e.1) done es) ≡ fold (insert_key cmd_cmp) (keys_of done) (keys_of es)
ids_sorted done [] = refl
ids_sorted done (e ∷ es) = ids_sorted (insert_entry cmd_cmp done e.0 e.1) es ∙ ap (λ ids. fold (insert_key cmd_cmp) ids (keys_of es)) (ids_inserted e.0 e.1 done)

pub keys_of_bookings : (es : Keeps) → keys_of (bookings es) ≡ keys_of es
keys_of_bookings [] = refl
keys_of_bookings (e ∷ es) = ap (λ ids. e.0 ∷ ids) (keys_of_bookings es)

lines_of_ids : (told : Told) (es : Book) → map (λ id. line_of id (told_of id told)) (keys_of es) ≡ map (reply_of told) es
lines_of_ids told [] = refl
lines_of_ids told (e ∷ es) = ap (λ l. reply_of told e ∷ l) (lines_of_ids told es)

-- the reply lines in order, by the ids in order
pub replies_by_ids : (told : Told) (es : Keeps) → map (λ id. line_of id (told_of id told)) (in_order (keys_of es)) ≡ map (reply_of told) (by_attempt (bookings es))
replies_by_ids told es =
    ap (map (λ id. line_of id (told_of id told))) (ap in_order (sym (keys_of_bookings es)) ∙ sym (ids_sorted [] (bookings es)))
    ∙ lines_of_ids told (by_attempt (bookings es))

-- a list without an item at a place ends there
pub slice_get_none : {A : Type 0} (es : List A) (at : ℕ) → slice_get es at ≡ None → length es ≤ at
slice_get_none [] at h = omega arith
slice_get_none (x ∷ es) zero h = absurd cc
slice_get_none (x ∷ es) (suc at) h = let more = slice_get_none es at h in omega (arith, more)

-- one more of them in order
pub take_next : {A : Type 0} (es : List A) (at : ℕ) (e : A) → slice_get es at ≡ Some e → take (at + 1) es ≡ take at es ++ e ∷ []
take_next [] at e h = absurd cc
take_next (x ∷ es) zero e h = let is : x ≡ e = cc in ap (λ y. y ∷ []) is
take_next (x ∷ es) (suc at) e h = ap (λ k. take k (x ∷ es)) (let k : suc at + 1 ≡ suc (at + 1) = omega arith in k) ∙ ap (λ l. x ∷ l) (take_next es at e h)

pub keys_end : {A : Type 0} (es : List (CmdId × A)) (e : CmdId × A) → keys_of (es ++ e ∷ []) ≡ keys_of es ++ e.0 ∷ []
keys_end [] e = refl
keys_end (x ∷ es) e = ap (λ ids. x.0 ∷ ids) (keys_end es e)

pub sorted_next : (es : Keeps) (at : ℕ) (old new : List CmdId) → at < length es
    → ((e : CmdId × Kept) → slice_get es at ≡ Some e → new ≡ insert_key cmd_cmp old e.0)
    → old ≡ in_order (keys_of (take at es)) → new ≡ in_order (keys_of (take (at + 1) es))
sorted_next es at old new lt step h = go (slice_get es at) refl where
  go : (o : Option (CmdId × Kept)) → slice_get es at ≡ o → new ≡ in_order (keys_of (take (at + 1) es))
  go None n = absurd (let le : length es ≤ at = slice_get_none es at n in omega (arith, le, lt))
  go (Some e) s =
      step e s ∙ ap (λ ids. insert_key cmd_cmp ids e.0) h
      ∙ sym (ap (λ l. in_order (keys_of l)) (take_next es at e s) ∙ ap in_order (keys_end (take at es) e)
      ∙ fold-append (insert_key cmd_cmp) [] (keys_of (take at es)) (e.0 ∷ []))

-- what holds at success gives what follows from it
pub on_ok : {A E P Q : Type 0} (r : Result A E) → OnOk r P → (P → Q) → OnOk r Q
on_ok (Ok a) h f = f h
on_ok (Err e) h f = tt

-- Attempts that may still be put stand where they are looked for.
use Rattle.std.proofs.Common.{◌≡◌, ◌⊎◌, inl, inr, ℕ, ◌+◌, ◌-◌, ◌<◌, ◌≤◌, Bool, true, false, cond, Option, None, Some, List, [], ◌∷◌, ◌++◌, length, map, refl, sym, ap, subst, ◌∙◌, arith, ◌==◌}
use Rattle.std.specs.Prelude.{◌&&◌, ◌||◌, not, slice_get, take, drop, sum_by, slice_set, Result, Ok, Err, OnOk}
use Rattle.std.specs.List.{list_any}
use Rattle.std.proofs.lemmas.Bool.{eqb-false}
use Rattle.std.specs.Map.{lookup, keys_of}
use Rattle.std.specs.Option.{option_map}
use Rattle.rp_base.specs.Ids.{same_id}
use Rattle.rp_base.specs.declared.ids.CmdId.{CmdId}
use Rattle.rp_base.proofs.IdLaws.{same_is, same_itself, same_back}
use Rattle.rp_request.specs.declared.outcomes.Outcome.{Outcome}
use Rattle.rp_request.specs.declared.outcomes.Outcome.TheVariants as outcomes
use Rattle.rp_book.specs.declared.bookings.Booked.{Booked}
use Rattle.rp_book.specs.declared.bookings.Draw.{Draw}
use Rattle.rp_book.specs.declared.bookings.Draw.TheVariants.{Undrawn, Drawn, Published}
use Rattle.rp_book.specs.Books.{Book, Told, booked, booking_of, told_of}
use Rattle.rp_book.specs.declared.keeps.Kept.{Kept}
use Rattle.rp_book.specs.Keeping.{Keeps, booking_in, bookings, outcome_in, outcomes as told_in}
use Rattle.rp_book.specs.Queueing.{AllStand, AllQueued, MayGo, Queued, has, holds, is_among, is_pending, is_unpublished, Stands, queue_of, stands_in}
use Rattle.rp_book.proofs.Entries.{at_mapped, keys_of_bookings, take_next, keys_end, slice_get_none}

-- what a book has of an attempt that is booked, and of others
booked_here : (id : CmdId) (b : Booked) (book : Book) → booking_of id (booked id b book) ≡ Some b
booked_here id b [] = ap (λ v. cond v (Some b) None) (same_itself id)
booked_here id b (e ∷ es) = go (booked_here id b es) (same_id id e.0) refl where
  go : booking_of id (booked id b es) ≡ Some b → (v : Bool) → same_id id e.0 ≡ v → booking_of id (cond v ((e.0, b) ∷ es) (e ∷ booked id b es)) ≡ Some b
  go ih true is = ap (λ v. cond v (Some b) (booking_of id es)) is
  go ih false is = ap (λ v. cond v (Some e.1) (booking_of id (booked id b es))) is ∙ ih

booked_other : (id other : CmdId) (b : Booked) (book : Book) → same_id other id ≡ false → booking_of other (booked id b book) ≡ booking_of other book
booked_other id other b [] ne = ap (λ v. cond v (Some b) None) ne
booked_other id other b (e ∷ es) ne = go (booked_other id other b es ne) (same_id id e.0) refl where
  go : booking_of other (booked id b es) ≡ booking_of other es → (v : Bool) → same_id id e.0 ≡ v → booking_of other (cond v ((e.0, b) ∷ es) (e ∷ booked id b es)) ≡ booking_of other (e ∷ es)
  go ih true is =
      let apart : same_id other e.0 ≡ false = ap (same_id other) (sym (same_is id e.0 is)) ∙ ne in
      ap (λ v. cond v (Some b) (booking_of other es)) apart ∙ sym (ap (λ v. cond v (Some e.1) (booking_of other es)) apart)
  go ih false is = ap (cond (same_id other e.0) (Some e.1)) ih

-- an attempt of a book is among its ids
among_ids : (id : CmdId) (b : Booked) (es : Book) → booking_of id es ≡ Some b → has id (keys_of es) ≡ true
among_ids id b [] h = absurd cc
among_ids id b (e ∷ es) h = go (same_id id e.0) h (among_ids id b es) where
  go : (v : Bool) → cond v (Some e.1) (booking_of id es) ≡ Some b → (booking_of id es ≡ Some b → has id (keys_of es) ≡ true) → (v || has id (keys_of es)) ≡ true
  go true h' ih = refl
  go false h' ih = ih h'

-- what was noted
abbrev pub Noted : Bool → CmdId → (before after : ℕ → CmdId → Bool) → Type 0
Noted asked id before after = (queue : ℕ) (other : CmdId) → ((asked && same_id other id) || before queue other) ≡ true → after queue other ≡ true

or_left : (a b : Bool) → a ≡ true → (a || b) ≡ true
or_left true b e = refl
or_left false b e = absurd cc

or_right : (a b : Bool) → b ≡ true → (a || b) ≡ true
or_right true b e = refl
or_right false b e = e

-- one attempt changes, and is noted where it may be put
module _ (book new : Book) (told told' : Told) (before after : ℕ → CmdId → Bool) (id : CmdId) (asked : Bool) where
  others_stand : AllStand book told before → Noted asked id before after
      → ((other : CmdId) → same_id other id ≡ false → booking_of other new ≡ booking_of other book)
      → ((other : CmdId) → same_id other id ≡ false → told_of other told' ≡ told_of other told)
      → ((b : Booked) (queue : ℕ) → booking_of id new ≡ Some b → queue_of b ≡ Some queue → MayGo told' id b → (asked ≡ true) ⊎ ((booking_of id book ≡ Some b) × MayGo told id b))
      → AllStand new told' after
  others_stand stand noted apart kept here other b queue has_it at may = go (same_id other id) refl where
    by_choice : same_id other id ≡ true → (asked ≡ true) ⊎ ((booking_of id book ≡ Some b) × MayGo told id b) → after queue other ≡ true
    by_choice is (inl y) = noted queue other (or_left (asked && same_id other id) (before queue other) (ap (λ v. v && same_id other id) y ∙ is))
    by_choice is (inr was) = noted queue other (or_right (asked && same_id other id) (before queue other) (subst (λ k. before queue k ≡ true) (sym (same_is other id is)) (stand id b queue was.0 at was.1)))

    go : (v : Bool) → same_id other id ≡ v → after queue other ≡ true
    go true is =
        let one : other ≡ id = same_is other id is in
        by_choice is (here b queue (ap (λ k. booking_of k new) (sym one) ∙ has_it) at (λ u. ap (λ k. told_of k told') (sym one) ∙ may u))
    go false is =
        noted queue other (or_right (asked && same_id other id) (before queue other)
        (stand other b queue (sym (apart other is) ∙ has_it) at (λ u. sym (kept other is) ∙ may u)))

-- a new attempt
pub put_stands : (book new : Book) (told told' : Told) (before after : ℕ → CmdId → Bool) (id : CmdId) (b : Booked) (outcome : Option Outcome) → AllStand book told before → Noted true id before after → new ≡ booked id b book
    → ((other : CmdId) → told_of other told' ≡ cond (same_id other id) outcome (told_of other told)) → AllStand new told' after
put_stands book new told told' before after id b outcome stand noted is now =
    others_stand book new told told' before after id true stand noted
    (λ other ne. ap (booking_of other) is ∙ booked_other id other b book ne)
    (λ other ne. now other ∙ ap (λ v. cond v outcome (told_of other told)) ne)
    (λ b' queue has_it at may. inl refl)

none_some : {X goal : Type 0} (x : X) → ◌≡◌ {A = Option X} None (Some x) → goal
none_some x e = absurd cc

some_same : {X : Type 0} (x y : X) → ◌≡◌ {A = Option X} (Some x) (Some y) → x ≡ y
some_same x y e = cc

-- an attempt has come so far in its buffer
draw_open : (draw : Draw) (b b' : Booked) (queue : ℕ) → b' ≡ record b { draw = draw } → queue_of b' ≡ Some queue → is_unpublished draw ≡ true
draw_open Undrawn b b' queue is at = refl
draw_open (Drawn place) b b' queue is at = refl
draw_open Published b b' queue is at = none_some queue (sym (ap queue_of is) ∙ at)

pub draw_stands : (book new : Book) (told told' : Told) (before after : ℕ → CmdId → Bool) (id : CmdId) (draw : Draw) → AllStand book told before → Noted (is_unpublished draw) id before after
    → (booking_of id book ≡ None → new ≡ book) → ((b : Booked) → booking_of id book ≡ Some b → new ≡ booked id (record b { draw = draw }) book)
    → ((other : CmdId) → told_of other told' ≡ told_of other told) → AllStand new told' after
draw_stands book new told told' before after id draw stand noted lacks sets now = go (booking_of id book) refl where
  go : (o : Option Booked) → booking_of id book ≡ o → AllStand new told' after
  go None lack = others_stand book new told told' before after id (is_unpublished draw) stand noted
      (λ other ne. ap (booking_of other) (lacks lack)) (λ other ne. now other)
      (λ b queue has_it at may. none_some b (sym lack ∙ sym (ap (booking_of id) (lacks lack)) ∙ has_it))
  go (Some b) had = others_stand book new told told' before after id (is_unpublished draw) stand noted
      (λ other ne. ap (booking_of other) (sets b had) ∙ booked_other id other (record b { draw = draw }) book ne) (λ other ne. now other)
      (λ b' queue has_it at may. inl (draw_open draw b b' queue
      (some_same b' (record b { draw = draw }) (sym has_it ∙ ap (booking_of id) (sets b had) ∙ booked_here id (record b { draw = draw }) book)) at))

-- something is told of an attempt
pub told_stands : (book new : Book) (told told' : Told) (before after : ℕ → CmdId → Bool) (id : CmdId) (outcome : Outcome) → AllStand book told before → Noted (is_pending outcome) id before after
    → new ≡ book → ((other : CmdId) → told_of other told' ≡ cond (same_id other id) (option_map (λ _. outcome) (told_of other told)) (told_of other told)) → AllStand new told' after
told_stands book new told told' before after id outcome stand noted same now =
    others_stand book new told told' before after id (is_pending outcome) stand noted
    (λ other ne. ap (booking_of other) same)
    (λ other ne. now other ∙ ap (λ v. cond v (option_map (λ _. outcome) (told_of other told)) (told_of other told)) ne)
    (λ b queue has_it at may. by_draw b b.draw refl (sym (ap (booking_of id) same) ∙ has_it) may)
  where
    here : told_of id told' ≡ option_map (λ _. outcome) (told_of id told)
    here = now id ∙ ap (λ v. cond v (option_map (λ _. outcome) (told_of id told)) (told_of id told)) (same_itself id)

    pends : (o : Option Outcome) → option_map (λ _. outcome) o ≡ Some outcomes.Pending → is_pending outcome ≡ true
    pends None e = none_some outcomes.Pending e
    pends (Some was) e = ap is_pending (some_same outcome outcomes.Pending e)

    drawn_apart : (place : ℕ) → ◌≡◌ {A = Draw} (Drawn place) Undrawn → {goal : Type 0} → goal
    drawn_apart place e = absurd cc

    published_apart : ◌≡◌ {A = Draw} Published Undrawn → {goal : Type 0} → goal
    published_apart e = absurd cc

    by_draw : (b : Booked) (draw : Draw) → b.draw ≡ draw → booking_of id book ≡ Some b → MayGo told' id b → (is_pending outcome ≡ true) ⊎ ((booking_of id book ≡ Some b) × MayGo told id b)
    by_draw b Undrawn is has_it may = inl (pends (told_of id told) (sym here ∙ may is))
    by_draw b (Drawn place) is has_it may = inr (has_it, λ u. drawn_apart place (sym is ∙ u))
    by_draw b Published is has_it may = inr (has_it, λ u. published_apart (sym is ∙ u))

-- the same book, as what is told of each stays
pub same_stand : (book new : Book) (told told' : Told) (st : ℕ → CmdId → Bool) → AllStand book told st → new ≡ book → ((other : CmdId) → told_of other told' ≡ told_of other told) → AllStand new told' st
same_stand book new told told' st stand same now id b queue has_it at may =
    stand id b queue (sym (ap (booking_of id) same) ∙ has_it) at (λ u. sym (now id) ∙ may u)

-- all that the book has is among its ids
pub ids_stand : (es : Keeps) (told : Told) (ids : List CmdId) (q : Queued) → ids ≡ keys_of es → AllStand (bookings es) told (is_among ids q)
ids_stand es told ids q is id b queue has_it at may =
    or_left (has id ids) (holds q queue id) (ap (has id) (is ∙ sym (keys_of_bookings es)) ∙ among_ids id b (bookings es) has_it)

-- where nothing was noted, and where queues are given back
pub queued_stand : (book : Book) (told : Told) (q : Queued) (noted : List CmdId) → AllQueued book told q → AllStand book told (stands_in (Some q) noted)
queued_stand book told q noted h id b queue has_it at may = or_right (has id noted) (holds q queue id) (h id b queue has_it at may)

-- one attempt more stands in its queue
drop_more : {X : Type 0} (xs : List X) (i : ℕ) (x : X) → slice_get xs i ≡ Some x → drop i xs ≡ x ∷ drop (i + 1) xs
drop_more [] i x e = absurd cc
drop_more (y ∷ xs) ℕ.zero x e = ap (λ z. z ∷ xs) (some_same y x e)
drop_more (y ∷ xs) (ℕ.suc i) x e = drop_more xs i x e ∙ ap (λ k. x ∷ drop k (y ∷ xs)) (let k : ℕ.suc i + 1 ≡ ℕ.suc (i + 1) = omega arith in sym k)

pub one_stands : (book : Book) (told : Told) (ids : List CmdId) (i : ℕ) (id : CmdId) (before after : Queued) → slice_get ids i ≡ Some id → AllStand book told (is_among (drop i ids) before)
    → Stands book told id before after → AllStand book told (is_among (drop (i + 1) ids) after)
one_stands book told ids i id before after here stand one other b queue has_it at may = go (same_id other id) refl where
  rest : List CmdId
  rest = drop (i + 1) ids

  was : (same_id other id || has other rest || holds before queue other) ≡ true
  was = sym (ap (λ l. has other l || holds before queue other) (drop_more ids i id here)) ∙ stand other b queue has_it at may

  left : (x y : Bool) → (x || y) ≡ true → (y ≡ true → holds after queue other ≡ true) → (x || holds after queue other) ≡ true
  left true y e f = refl
  left false y e f = f e

  go : (v : Bool) → same_id other id ≡ v → (has other rest || holds after queue other) ≡ true
  go true is =
      let same : other ≡ id = same_is other id is in
      or_right (has other rest) (holds after queue other) (subst (λ k. holds after queue k ≡ true) (sym same)
      (one.here b queue (ap (λ k. booking_of k book) (sym same) ∙ has_it) at (λ u. ap (λ k. told_of k told) (sym same) ∙ may u)))
  go false is =
      let two : (has other rest || holds before queue other) ≡ true = sym (ap (λ v. (v || has other rest) || holds before queue other) is) ∙ was in
      left (has other rest) (holds before queue other) two (one.still queue other)

none_at : {X : Type 0} (xs : List X) (i : ℕ) → length xs ≤ i → drop i xs ≡ []
none_at [] ℕ.zero le = refl
none_at [] (ℕ.suc i) le = refl
none_at (x ∷ xs) ℕ.zero le = absurd (omega (arith, le))
none_at (x ∷ xs) (ℕ.suc i) le = none_at xs i (omega (arith, le))

pub none_behind : (book : Book) (told : Told) (ids : List CmdId) (i : ℕ) (q : Queued) → length ids ≤ i → AllStand book told (is_among (drop i ids) q) → AllQueued book told q
none_behind book told ids i q le stand id b queue has_it at may = sym (ap (λ l. has id l || holds q queue id) (none_at ids i le)) ∙ stand id b queue has_it at may

-- the queue of what is kept
pub placed : (es : Keeps) (id : CmdId) (kept : Kept) (place : Option ℕ) → lookup (same_id id) es ≡ Some kept
    → ((queue : ℕ) → queue_of (booking_in kept) ≡ Some queue → ((booking_in kept).draw ≡ Undrawn → outcome_in kept ≡ outcomes.Pending) → place ≡ Some queue)
    → (b : Booked) (queue : ℕ) → booking_of id (bookings es) ≡ Some b → queue_of b ≡ Some queue → MayGo (told_in es) id b → place ≡ Some queue
placed es id kept place found by b queue has_it at may =
    let is : booking_in kept ≡ b = some_same (booking_in kept) b (sym (at_mapped booking_in (same_id id) es ∙ ap (option_map booking_in) found) ∙ has_it) in
    by queue (ap queue_of is ∙ at) (λ u. some_same (outcome_in kept) outcomes.Pending
    (sym (at_mapped outcome_in (same_id id) es ∙ ap (option_map outcome_in) found) ∙ may (sym (ap (λ (x : Booked). x.draw) is) ∙ u)))

pub unplaced : (es : Keeps) (id : CmdId) → lookup (same_id id) es ≡ None → (b : Booked) → booking_of id (bookings es) ≡ Some b → {goal : Type 0} → goal
unplaced es id lack b has_it = none_some b (sym (at_mapped booking_in (same_id id) es ∙ ap (option_map booking_in) lack) ∙ has_it)

eqb-refl : (n : ℕ) → (n == n) ≡ true
eqb-refl n = go (n == n) refl where
  go : (v : Bool) → (n == n) ≡ v → v ≡ true
  go true e = refl
  go false e = absurd (eqb-false n n e refl)

-- an attempt is put into its queue
pub stands_now : (book : Book) (told : Told) (id : CmdId) (place : ℕ) (before after : Queued) → ((b : Booked) (queue : ℕ) → booking_of id book ≡ Some b → queue_of b ≡ Some queue → MayGo told id b → ◌≡◌ {A = Option ℕ} (Some place) (Some queue))
    → ((k : ℕ) (other : CmdId) → holds after k other ≡ ((k == place && same_id other id) || holds before k other)) → Stands book told id before after
stands_now book told id place before after by now = record {
  here = λ b queue has_it at may.
      let is : place ≡ queue = some_same place queue (by b queue has_it at may) in
      now queue id ∙ or_left (queue == place && same_id id id) (holds before queue id)
      (ap (λ n. n == place && same_id id id) (sym is) ∙ ap (λ v. v && same_id id id) (eqb-refl place) ∙ same_itself id);
  still = λ queue other was. now queue other ∙ or_right (queue == place && same_id other id) (holds before queue other) was;
}

pub stands_not : (book : Book) (told : Told) (id : CmdId) (q : Queued) → ((b : Booked) (queue : ℕ) → booking_of id book ≡ Some b → queue_of b ≡ Some queue → MayGo told id b → ◌≡◌ {A = Option ℕ} None (Some queue)) → Stands book told id q q
stands_not book told id q by = record {
  here = λ b queue has_it at may. none_some queue (by b queue has_it at may);
  still = λ queue other was. was;
}

-- the ids of one attempt more
pub ids_more : {A : Type 0} (es : List (CmdId × A)) (at : ℕ) (old new : List CmdId) → at < length es → ((e : CmdId × A) → slice_get es at ≡ Some e → new ≡ old ++ e.0 ∷ [])
    → old ≡ keys_of (take at es) → new ≡ keys_of (take (at + 1) es)
ids_more {A} es at old new lt step so_far = go (slice_get es at) refl where
  go : (o : Option (CmdId × A)) → slice_get es at ≡ o → new ≡ keys_of (take (at + 1) es)
  go None n = absurd (let le : length es ≤ at = slice_get_none es at n in omega (arith, le, lt))
  go (Some e) here = step e here ∙ ap (λ l. l ++ e.0 ∷ []) so_far ∙ sym (ap keys_of (take_next es at e here) ∙ keys_end (take at es) e)

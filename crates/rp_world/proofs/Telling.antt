-- The book beside the nodes, along events.
use Rattle.std.proofs.Common.{◌≡◌, ℕ, Bool, true, false, ◌||◌, Option, None, Some, List, [], ◌∷◌, refl, sym, ap, subst, ◌∙◌, cond, is_some, length, ◌++◌, ◌+◌, ◌<◌, get_or, take}
use Rattle.std.proofs.lemmas.List.{take_more}
use Rattle.std.specs.Option.{option_map}
use Rattle.std.specs.List.{AllByRecursion}
use Rattle.rp_base.specs.Ids.{same_id}
use Rattle.rp_base.specs.declared.ids.CmdId.{CmdId}
use Rattle.rp_base.proofs.IdLaws.{same_back, same_is, same_itself}
use Rattle.rp_request.specs.declared.outcomes.Outcome.{Outcome}
use Rattle.rp_request.specs.declared.outcomes.Outcome.TheVariants as outcomes
use Rattle.rp_request.specs.declared.requests.Request.{Request}
use Rattle.rp_book.specs.declared.bookings.Booked.{Booked}
use Rattle.rp_book.specs.declared.bookings.Draw.{Draw}
use Rattle.rp_book.specs.Books.{BookState, booked, booking_of, told_of}
use Rattle.rp_events.specs.declared.answers.Ended.{Ended}
use Rattle.rp_events.specs.declared.answers.EventAnswer.{EventAnswer}
use Rattle.rp_events.specs.Nodes.{Node}
use Rattle.rp_events.specs.Worlds.{World, Scene, Happening, Admit, Ask, Transfer, Collect, Flush, Tick, Deliver, Apply, Cut, Remove, Peek, Restart, Round, asked_request, happens, outcome_of, was_asked}
use Rattle.rp_events.specs.Lawful.{IsReached}
use Rattle.rp_told.specs.Turns.{Turns, answer_of, behind}
use Rattle.rp_told.specs.Outcomes.{EndsPending, asks, begun, begun_request, first_outcome, retold}
use Rattle.rp_world.specs.Keeping.{IsBookOf, told_after}
use Rattle.rp_world.proofs.Below.{asked_after, booked_here, booked_other, ends_none, ends_pending, outcome_after, request_after}

-- what ends was known
abbrev Known : CmdId → Option Outcome → Ended → Type 0
Known id before e = same_id e.id id ≡ true → is_some before ≡ true

all_known : (id : CmdId) (a b : Option Outcome) → (is_some a ≡ true → is_some b ≡ true) → (es : List Ended) → AllByRecursion (Known id a) es → AllByRecursion (Known id b) es
all_known id a b goes [] h = tt
all_known id a b goes (e ∷ es) h = (λ same. goes (h.0 same), all_known id a b goes es h.1)

-- where what ends is known, what is told after it is what the laws say
pub told_is_retold : (id : CmdId) (es : List Ended) (before : Option Outcome) → AllByRecursion (Known id before) es → told_after es id before ≡ retold id es before
told_is_retold id [] before h = refl
told_is_retold id (e ∷ es) before h =
    ap (λ b. told_after es id (cond b (option_map (λ _. e.outcome) before) before)) (same_back id e.id)
    ∙ go (same_id e.id id) h.0 (told_is_retold id es (Some e.outcome) (all_known id before (Some e.outcome) (λ _. refl) es h.1)) (told_is_retold id es before h.1)
  where
    at_some : (o : Option Outcome) → is_some o ≡ true → option_map (λ (_ : Outcome). e.outcome) o ≡ Some e.outcome
    at_some None h = absurd cc
    at_some (Some x) h = refl

    go : (b : Bool) → (b ≡ true → is_some before ≡ true)
        → told_after es id (Some e.outcome) ≡ retold id es (Some e.outcome) → told_after es id before ≡ retold id es before
        → told_after es id (cond b (option_map (λ _. e.outcome) before) before) ≡ retold id es (cond b (Some e.outcome) before)
    go true known here there = ap (told_after es id) (at_some before (known refl)) ∙ here
    go false known here there = there

-- what was pending is known
pending_known : (w : World) (id : CmdId) (es : List Ended) → AllByRecursion (EndsPending w) es → AllByRecursion (Known id (outcome_of w id)) es
pending_known w id [] h = tt
pending_known w id (e ∷ es) h =
    (λ same. ap is_some (subst (λ i. outcome_of w i ≡ Some outcomes.Pending) (same_is e.id id same) h.0.before), pending_known w id es h.1)

-- an event that asks for no admission
pub record Quiet (what : Happening) : Type 0 where
  pub asks_none : (id : CmdId) → asks id what ≡ false
  pub begins_none : (id : CmdId) (answer : EventAnswer) (before : Option Outcome) → begun id what answer before ≡ before
  pub requests_none : (id : CmdId) (before : Option Request) → begun_request id what before ≡ before

-- the book stays that of the nodes
pub still_book : (k : ℕ) (w : World) (x : Scene) (n now : Node) → IsReached k w → Turns w x n now → Quiet x.what
    → (s t : BookState) → t.entries ≡ s.entries → ((id : CmdId) → told_of id t.told ≡ told_after (behind n.outcomes now.outcomes) id (told_of id s.told))
    → IsBookOf w s → IsBookOf (happens w x) t
still_book k w x n now reached turns quiet s t entries told b = record {
  asked = λ id.
      ap (λ es. is_some (booking_of id es)) entries ∙ b.asked id
      ∙ sym (asked_after w x n now turns id ∙ ap (λ a. a || was_asked w id) (quiet.asks_none id));
  requests = λ id booked is.
      request_after k w reached x n now turns id ∙ quiet.requests_none id (asked_request w id)
      ∙ b.requests id booked (subst (λ es. booking_of id es ≡ Some booked) entries is);
  told = λ id.
      told id ∙ ap (told_after (behind n.outcomes now.outcomes) id) (b.told id)
      ∙ told_is_retold id (behind n.outcomes now.outcomes) (outcome_of w id)
      (pending_known w id (behind n.outcomes now.outcomes) (ends_pending k w reached x n now turns))
      ∙ ap (retold id (behind n.outcomes now.outcomes)) (sym (quiet.begins_none id (answer_of now) (outcome_of w id)))
      ∙ sym (outcome_after k w reached x n now turns id);
}

-- what a client asks for stands in the book
abbrev with_first : CmdId → Outcome → (CmdId → Option Outcome) → CmdId → Option Outcome
with_first id first told other = cond (same_id other id) (Some first) (told other)

abbrev pub asking : (node range : ℕ) → CmdId → Request → Scene
asking node range id request = record { node = node; what = Admit range id request }

pub new_book : (k : ℕ) (w : World) (node range : ℕ) (id : CmdId) (request : Request) (n now : Node) → IsReached k w
    → Turns w (asking node range id request) n now
    → (s t : BookState) (b : Booked) → b.request ≡ request → t.entries ≡ booked id b s.entries
    → ((other : CmdId) → told_of other t.told ≡ with_first id (first_outcome (answer_of now)) (λ i. told_of i s.told) other)
    → IsBookOf w s → IsBookOf (happens w (asking node range id request)) t
new_book k w node range id request n now reached turns s t b asks_for entries told book = record {
  asked = λ other. by_asked other (same_id other id) refl;
  requests = λ other had is. by_request other had (same_id other id) refl (subst (λ es. booking_of other es ≡ Some had) entries is);
  told = λ other. told other ∙ by_told other (same_id other id) refl ∙ sym (after other);
}
  where
    some_booked : (a c : Booked) → ◌≡◌ {A = Option Booked} (Some a) (Some c) → a ≡ c
    some_booked a c e = cc

    at_here : (other : CmdId) → same_id other id ≡ true → booking_of other (booked id b s.entries) ≡ Some b
    at_here other same = subst (λ i. booking_of i (booked id b s.entries) ≡ Some b) (sym (same_is other id same)) (booked_here id b s.entries)

    by_asked : (other : CmdId) (c : Bool) → same_id other id ≡ c → is_some (booking_of other t.entries) ≡ was_asked (happens w (asking node range id request)) other
    by_asked other true same =
        ap (λ es. is_some (booking_of other es)) entries ∙ ap is_some (at_here other same)
        ∙ sym (asked_after w (asking node range id request) n now turns other ∙ ap (λ a. a || was_asked w other) (same_back id other ∙ same))
    by_asked other false same =
        ap (λ es. is_some (booking_of other es)) entries ∙ ap is_some (booked_other id other b s.entries same) ∙ book.asked other
        ∙ sym (asked_after w (asking node range id request) n now turns other ∙ ap (λ a. a || was_asked w other) (same_back id other ∙ same))

    by_request : (other : CmdId) (had : Booked) (c : Bool) → same_id other id ≡ c → booking_of other (booked id b s.entries) ≡ Some had
        → asked_request (happens w (asking node range id request)) other ≡ Some had.request
    by_request other had true same is =
        request_after k w reached (asking node range id request) n now turns other
        ∙ ap (λ c. cond c (Some request) (asked_request w other)) (same_back id other ∙ same)
        ∙ ap Some (sym asks_for ∙ ap (λ (z : Booked). z.request) (some_booked b had (sym (at_here other same) ∙ is)))
    by_request other had false same is =
        request_after k w reached (asking node range id request) n now turns other
        ∙ ap (λ c. cond c (Some request) (asked_request w other)) (same_back id other ∙ same)
        ∙ book.requests other had (sym (booked_other id other b s.entries same) ∙ is)

    after : (other : CmdId) → outcome_of (happens w (asking node range id request)) other ≡ begun other (Admit range id request) (answer_of now) (outcome_of w other)
    after other =
        outcome_after k w reached (asking node range id request) n now turns other
        ∙ ap (λ es. retold other es (begun other (Admit range id request) (answer_of now) (outcome_of w other))) (ends_none w (asking node range id request) n now turns id (same_itself id))

    by_told : (other : CmdId) (c : Bool) → same_id other id ≡ c
        → with_first id (first_outcome (answer_of now)) (λ i. told_of i s.told) other ≡ begun other (Admit range id request) (answer_of now) (outcome_of w other)
    by_told other c same =
        ap (λ a. cond a (Some (first_outcome (answer_of now))) (told_of other s.told)) same
        ∙ ap (λ o. cond c (Some (first_outcome (answer_of now))) o) (book.told other)
        ∙ sym (ap (λ a. cond a (Some (first_outcome (answer_of now))) (outcome_of w other)) (same_back id other ∙ same))

-- an attempt comes further in its buffer
pub drawn_book : (w : World) (id : CmdId) (b : Booked) (draw : Draw) (s t : BookState) → booking_of id s.entries ≡ Some b
    → t.entries ≡ booked id (record b { draw = draw }) s.entries → ((other : CmdId) → told_of other t.told ≡ told_of other s.told) → IsBookOf w s → IsBookOf w t
drawn_book w id b draw s t has entries told book = record {
  asked = λ other. by_asked other (same_id other id) refl;
  requests = λ other had is. by_request other had (same_id other id) refl (subst (λ es. booking_of other es ≡ Some had) entries is);
  told = λ other. told other ∙ book.told other;
}
  where
    some_booked : (a c : Booked) → ◌≡◌ {A = Option Booked} (Some a) (Some c) → a ≡ c
    some_booked a c e = cc

    at_here : (other : CmdId) → same_id other id ≡ true → booking_of other (booked id (record b { draw = draw }) s.entries) ≡ Some (record b { draw = draw })
    at_here other same =
        subst (λ i. booking_of i (booked id (record b { draw = draw }) s.entries) ≡ Some (record b { draw = draw })) (sym (same_is other id same))
        (booked_here id (record b { draw = draw }) s.entries)

    had_here : (other : CmdId) → same_id other id ≡ true → booking_of other s.entries ≡ Some b
    had_here other same = subst (λ i. booking_of i s.entries ≡ Some b) (sym (same_is other id same)) has

    by_asked : (other : CmdId) (c : Bool) → same_id other id ≡ c → is_some (booking_of other t.entries) ≡ was_asked w other
    by_asked other true same =
        ap (λ es. is_some (booking_of other es)) entries ∙ ap is_some (at_here other same) ∙ sym (ap is_some (had_here other same)) ∙ book.asked other
    by_asked other false same =
        ap (λ es. is_some (booking_of other es)) entries ∙ ap is_some (booked_other id other (record b { draw = draw }) s.entries same) ∙ book.asked other

    by_request : (other : CmdId) (had : Booked) (c : Bool) → same_id other id ≡ c → booking_of other (booked id (record b { draw = draw }) s.entries) ≡ Some had
        → asked_request w other ≡ Some had.request
    by_request other had true same is =
        book.requests other b (had_here other same)
        ∙ ap (λ (z : Booked). Some z.request) (some_booked (record b { draw = draw }) had (sym (at_here other same) ∙ is))
    by_request other had false same is = book.requests other had (sym (booked_other id other (record b { draw = draw }) s.entries same) ∙ is)

-- one more end is told
told_push : (es : List Ended) (e : Ended) (id : CmdId) (before : Option Outcome)
    → told_after (es ++ e ∷ []) id before ≡ cond (same_id id e.id) (option_map (λ _. e.outcome) (told_after es id before)) (told_after es id before)
told_push [] e id before = refl
told_push (x ∷ es) e id before = told_push es e id (cond (same_id id x.id) (option_map (λ _. x.outcome) before) before)

pub tell_more : (es : List Ended) (i : ℕ) (e : Ended) (id : CmdId) (before now new : Option Outcome) → i < length es → e ≡ get_or es i e
    → now ≡ told_after (take i es) id before → new ≡ cond (same_id id e.id) (option_map (λ _. e.outcome) now) now → new ≡ told_after (take (i + 1) es) id before
tell_more es i e id before now new h is so_far step =
    step ∙ ap (λ o. cond (same_id id e.id) (option_map (λ _. e.outcome) o) o) so_far
    ∙ sym (told_push (take i es) e id before)
    ∙ ap (λ x. told_after (take i es ++ x ∷ []) id before) is
    ∙ ap (λ l. told_after l id before) (sym (take_more es i e h))

-- The reply lines of a world are those of the attempts that were asked.
use Rattle.std.proofs.Common.{◌≡◌, ⊎_elim, ℕ, ◌+◌, ◌<◌, ◌≤◌, Bool, true, false, cond, Option, None, Some, List, [], ◌∷◌, refl, sym, ap, subst, ◌∙◌, arith}
use Rattle.std.specs.Prelude.{is_some, map, fold, ◌||◌, option_and_then, count_by}
use Rattle.std.specs.BTreeMap.{insert_entry, is_at}
use Rattle.std.specs.List.{find, list_any, AllByRecursion}
use Rattle.std.specs.Option.{option_map, option_map_or, option_or}
use Rattle.std.specs.declared.cmp.Ordering.TheVariants.{Less}
use Rattle.std.proofs.lemmas.List.Sums.{sum_by-cons}
use Rattle.rp_base.specs.Ids.{same_id, cmd_cmp}
use Rattle.rp_base.specs.declared.ids.CmdId.{CmdId}
use Rattle.rp_base.proofs.Counts.{count_cons}
use Rattle.rp_base.proofs.IdLaws.{same_is, same_itself, at_same, apart_not_same, not_same_apart, id_cases}
use Rattle.rp_request.specs.declared.outcomes.Outcome.{Outcome}
use Rattle.rp_request.specs.declared.outcomes.Outcome.TheVariants as outcomes
use Rattle.rp_events.specs.declared.answers.EventAnswer.{EventAnswer}
use Rattle.rp_events.specs.declared.journals.JournalEntry.{JournalEntry}
use Rattle.rp_events.specs.declared.journals.PastEvent.{PastEvent}
use Rattle.rp_events.specs.declared.journals.PastEvent.TheVariants as past
use Rattle.rp_events.specs.Nodes.{Node}
use Rattle.rp_events.specs.Worlds.{World, is_admission_of, asked_at, was_asked, outcome_by, outcome_at, outcome_of}
use Rattle.rp_events.specs.Lawful.{IsReached}
use Rattle.rp_journals.specs.Asked.{times_asked}
use Rattle.rp_journals.proofs.Asking.{times_at_most_once}
use Rattle.rp_journals.proofs.Counting.{one_if}
use Rattle.rp_book.specs.declared.bookings.Booked.{Booked}
use Rattle.rp_book.specs.Books.{Book, booking_of, by_attempt}
use Rattle.rp_lines.specs.Views.{Ends, with_end, ends_in, ends_of, reply_of, replies_of}
use Rattle.rp_told.specs.Replies.{reply_in, AreInOrder, AreAsked}
use Rattle.rp_told.proofs.Asks.{asked_known}
use Rattle.rp_told.proofs.Finding.{uncounted_none}
use Rattle.rp_told.proofs.Sorting.{found, put_itself, put_other, IsAfter, IsRising, put_rising, same_rising, map_rising, map_found}

-- one entry of a journal
end_rising : (n : Node) (ends : Ends) (answer : EventAnswer) (e : PastEvent) → IsRising ends → IsRising (with_end n ends (record { event = e; answer = answer }))
end_rising n ends answer (past.Admit range id place) h = put_rising ends id (outcome_by n id answer) h
end_rising n ends answer (past.Ask range) h = h
end_rising n ends answer (past.Transfer range to) h = h
end_rising n ends answer (past.Collect range taken) h = h
end_rising n ends answer (past.Flush range) h = h
end_rising n ends answer past.Tick h = h
end_rising n ends answer (past.Deliver from number) h = h
end_rising n ends answer (past.Apply range) h = h
end_rising n ends answer (past.Cut range) h = h
end_rising n ends answer (past.Remove range) h = h
end_rising n ends answer (past.Peek range key) h = h
end_rising n ends answer past.Restart h = h
end_rising n ends answer (past.Round sent) h = h

-- an attempt's outcome is put where the entry is its admission
end_found : (n : Node) (ends : Ends) (answer : EventAnswer) (e : PastEvent) (q : CmdId)
    → found (with_end n ends (record { event = e; answer = answer })) q ≡ cond (is_admission_of q (record { event = e; answer = answer })) (Some (outcome_by n q answer)) (found ends q)
end_found n ends answer (past.Admit range id place) q = go (same_id id q) refl where
  go : (b : Bool) → same_id id q ≡ b → found (insert_entry cmd_cmp ends id (outcome_by n id answer)) q ≡ cond b (Some (outcome_by n q answer)) (found ends q)
  go true is = subst (λ z. found (insert_entry cmd_cmp ends id (outcome_by n id answer)) z ≡ Some (outcome_by n z answer)) (same_is id q is) (put_itself ends id (outcome_by n id answer))
  go false is = put_other ends id (outcome_by n id answer) q (λ same. not_same_apart id q is (sym same))
end_found n ends answer (past.Ask range) q = refl
end_found n ends answer (past.Transfer range to) q = refl
end_found n ends answer (past.Collect range taken) q = refl
end_found n ends answer (past.Flush range) q = refl
end_found n ends answer past.Tick q = refl
end_found n ends answer (past.Deliver from number) q = refl
end_found n ends answer (past.Apply range) q = refl
end_found n ends answer (past.Cut range) q = refl
end_found n ends answer (past.Remove range) q = refl
end_found n ends answer (past.Peek range key) q = refl
end_found n ends answer past.Restart q = refl
end_found n ends answer (past.Round sent) q = refl

-- a journal
journal_rising : (n : Node) (es : List JournalEntry) (ends : Ends) → IsRising ends → IsRising (ends_in n ends es)
journal_rising n [] ends h = h
journal_rising n (e ∷ es) ends h = journal_rising n es (with_end n ends e) (end_rising n ends e.answer e.event h)

abbrev outcome_in : Node → CmdId → List JournalEntry → Option Outcome
outcome_in n q es = option_map (λ (e : JournalEntry). outcome_by n q e.answer) (find (is_admission_of q) es)

journal_found : (n : Node) (q : CmdId) (es : List JournalEntry) (ends : Ends) → count_by (is_admission_of q) es ≤ 1 → found (ends_in n ends es) q ≡ option_or (outcome_in n q es) (found ends q)
journal_found n q [] ends l = refl
journal_found n q (e ∷ es) ends l = go (is_admission_of q e) refl (journal_found n q es (with_end n ends e)) where
  k : count_by (is_admission_of q) (e ∷ es) ≡ one_if (is_admission_of q e) + count_by (is_admission_of q) es
  k = count_cons (is_admission_of q) e es

  go : (b : Bool) → is_admission_of q e ≡ b
      → (count_by (is_admission_of q) es ≤ 1 → found (ends_in n (with_end n ends e) es) q ≡ option_or (outcome_in n q es) (found (with_end n ends e) q))
      → found (ends_in n (with_end n ends e) es) q
      ≡ option_or (option_map (λ (x : JournalEntry). outcome_by n q x.answer) (cond b (Some e) (find (is_admission_of q) es))) (found ends q)
  go true is ih =
      let one : one_if (is_admission_of q e) ≡ 1 = ap one_if is in
      ih (omega (arith, k, l))
      ∙ ap (λ f. option_or (option_map (λ (x : JournalEntry). outcome_by n q x.answer) f) (found (with_end n ends e) q)) (uncounted_none (is_admission_of q) es (omega (arith, k, l, one)))
      ∙ end_found n ends e.answer e.event q
      ∙ ap (λ b. cond b (Some (outcome_by n q e.answer)) (found ends q)) is
  go false is ih =
      ih (omega (arith, k, l))
      ∙ ap (option_or (outcome_in n q es)) (end_found n ends e.answer e.event q ∙ ap (λ b. cond b (Some (outcome_by n q e.answer)) (found ends q)) is)

-- all journals
world_rising : (w : World) (ends : Ends) → IsRising ends → IsRising (ends_of ends w)
world_rising [] ends h = h
world_rising (n ∷ w) ends h = world_rising w (ends_in n ends n.journal) (journal_rising n n.journal ends h)

unasked_none : (id : CmdId) (n : Node) → asked_at id n ≡ false → outcome_at id n ≡ None
unasked_none id n none = ap (option_map (λ (e : JournalEntry). outcome_by n id e.answer)) (found_no (is_admission_of id) n.journal none) where
  found_no : {X : Type 0} (test : X → Bool) (xs : List X) → list_any test xs ≡ false → find test xs ≡ None
  found_no test [] e = refl
  found_no {X} test (x ∷ xs) e = by_test (test x) e (found_no test xs) where
    by_test : (b : Bool) → (b || list_any test xs) ≡ false → (list_any test xs ≡ false → find test xs ≡ None) → cond b (Some x) (find test xs) ≡ None
    by_test true e' ih = absurd cc
    by_test false e' ih = ih e'

-- an attempt that is asked is counted
asked_counted : (id : CmdId) (es : List JournalEntry) → list_any (is_admission_of id) es ≡ true → 0 < count_by (is_admission_of id) es
asked_counted id [] e = absurd cc
asked_counted id (x ∷ es) e = go (is_admission_of id x) refl e (asked_counted id es) where
  k : count_by (is_admission_of id) (x ∷ es) ≡ one_if (is_admission_of id x) + count_by (is_admission_of id) es
  k = count_cons (is_admission_of id) x es

  go : (b : Bool) → is_admission_of id x ≡ b → (b || list_any (is_admission_of id) es) ≡ true → (list_any (is_admission_of id) es ≡ true → 0 < count_by (is_admission_of id) es) → 0 < count_by (is_admission_of id) (x ∷ es)
  go true is e' ih = let one : one_if (is_admission_of id x) ≡ 1 = ap one_if is in omega (arith, k, one)
  go false is e' ih = let more = ih e' in omega (arith, k, more)

none_asked : (id : CmdId) (w : World) → times_asked w id ≡ 0 → outcome_of w id ≡ None
none_asked id w e = ap (option_and_then (outcome_at id)) (go w e) where
  go : (w : World) → times_asked w id ≡ 0 → find (asked_at id) w ≡ None
  go [] e' = refl
  go (n ∷ w) e' = by_test (asked_at id n) refl (go w) where
    k : times_asked (n ∷ w) id ≡ count_by (is_admission_of id) n.journal + times_asked w id
    k = sum_by-cons (λ (m : Node). count_by (is_admission_of id) m.journal) n w

    by_test : (b : Bool) → asked_at id n ≡ b → (times_asked w id ≡ 0 → find (asked_at id) w ≡ None) → cond b (Some n) (find (asked_at id) w) ≡ None
    by_test true is ih = absurd (let some = asked_counted id n.journal is in omega (arith, some, k, e'))
    by_test false is ih = ih (omega (arith, k, e'))

or_apart : {X : Type 0} (a b c : Option X) → option_or (option_or a b) c ≡ option_or a (option_or b c)
or_apart None b c = refl
or_apart (Some x) b c = refl

world_found : (q : CmdId) (w : World) (ends : Ends) → times_asked w q ≤ 1 → found (ends_of ends w) q ≡ option_or (outcome_of w q) (found ends q)
world_found q [] ends l = refl
world_found q (n ∷ w) ends l = go (asked_at q n) refl (world_found q w (ends_in n ends n.journal)) where
  k : times_asked (n ∷ w) q ≡ count_by (is_admission_of q) n.journal + times_asked w q
  k = sum_by-cons (λ (m : Node). count_by (is_admission_of q) m.journal) n w

  here : found (ends_in n ends n.journal) q ≡ option_or (outcome_at q n) (found ends q)
  here = journal_found n q n.journal ends (omega (arith, k, l))

  go : (b : Bool) → asked_at q n ≡ b
      → (times_asked w q ≤ 1 → found (ends_of (ends_in n ends n.journal) w) q ≡ option_or (outcome_of w q) (found (ends_in n ends n.journal) q))
      → found (ends_of (ends_in n ends n.journal) w) q ≡ option_or (option_and_then (outcome_at q) (cond b (Some n) (find (asked_at q) w))) (found ends q)
  go true is ih =
      let some = asked_counted q n.journal is in
      ih (omega (arith, k, l))
      ∙ ap (λ o. option_or o (found (ends_in n ends n.journal) q)) (none_asked q w (omega (arith, k, l, some)))
      ∙ here
  go false is ih =
      ih (omega (arith, k, l))
      ∙ ap (option_or (outcome_of w q)) (here ∙ ap (λ o. option_or o (found ends q)) (unasked_none q n is))

-- the outcomes of a world, in order
or_none : {X : Type 0} (o : Option X) → option_or o None ≡ o
or_none None = refl
or_none (Some x) = refl

ends_found : (nodes : ℕ) (w : World) → IsReached nodes w → (q : CmdId) → found (ends_of [] w) q ≡ outcome_of w q
ends_found nodes w r q = world_found q w [] (times_at_most_once nodes w r q) ∙ or_none (outcome_of w q)

-- any list in order of exactly the attempts that were asked
abbrev told_of : World → CmdId → Outcome
told_of w id = option_map_or (λ (o : Outcome). o) (outcome_of w id) outcomes.Pending

some_of : (o : Option Outcome) → cond (is_some o) (Some (option_map_or (λ (x : Outcome). x) o outcomes.Pending)) None ≡ o
some_of None = refl
some_of (Some x) = refl

map_twice : {X : Type 0} (w : World) (es : List (CmdId × X)) → map reply_of (map (λ e. (e.0, told_of w e.0)) es) ≡ map (λ e. reply_in w e.0) es
map_twice w [] = refl
map_twice w (e ∷ es) = ap (λ l. reply_in w e.0 ∷ l) (map_twice w es)

pub replies_by : {X : Type 0} (nodes : ℕ) (w : World) → IsReached nodes w → (es : List (CmdId × X)) → IsRising es → ((q : CmdId) → is_some (found es q) ≡ was_asked w q)
    → replies_of w ≡ map (λ e. reply_in w e.0) es
replies_by nodes w r es rising each =
    ap (map reply_of) (same_rising (ends_of [] w) (map (λ e. (e.0, told_of w e.0)) es) (world_rising w [] tt) (map_rising (told_of w) es rising) same) ∙ map_twice w es
  where
    same : (q : CmdId) → found (ends_of [] w) q ≡ found (map (λ e. (e.0, told_of w e.0)) es) q
    same q =
        ends_found nodes w r q
        ∙ sym (some_of (outcome_of w q))
        ∙ ap (λ b. cond b (Some (told_of w q)) None) (asked_known w q ∙ sym (each q))
        ∙ sym (map_found (told_of w) es q)

-- a list of ids
abbrev alone : CmdId → CmdId × Unit {0}
alone id = (id, tt)

alone_rising : (ids : List CmdId) → AreInOrder ids → IsRising (map alone ids)
alone_rising [] h = tt
alone_rising (id ∷ ids) h = (go ids h.0, alone_rising ids h.1) where
  go : (more : List CmdId) → AllByRecursion (λ later. cmd_cmp id later ≡ Less) more → AllByRecursion (IsAfter id) (map alone more)
  go [] h' = tt
  go (x ∷ more) h' = (h'.0, go more h'.1)

alone_found : (ids : List CmdId) (q : CmdId) → is_some (found (map alone ids) q) ≡ list_any (same_id q) ids
alone_found [] q = refl
alone_found (id ∷ ids) q = go (same_id q id) (at_same q id) (alone_found ids q) where
  go : (b : Bool) → is_at (cmd_cmp q) id ≡ b → is_some (found (map alone ids) q) ≡ list_any (same_id q) ids → is_some (found (map alone (id ∷ ids)) q) ≡ (b || list_any (same_id q) ids)
  go true is ih = ap (λ b. is_some (cond b (Some tt) (found (map alone ids) q))) is
  go false is ih = ap (λ b. is_some (cond b (Some tt) (found (map alone ids) q))) is ∙ ih

alone_map : (w : World) (ids : List CmdId) → map (λ (e : CmdId × Unit {0}). reply_in w e.0) (map alone ids) ≡ map (reply_in w) ids
alone_map w [] = refl
alone_map w (id ∷ ids) = ap (λ l. reply_in w id ∷ l) (alone_map w ids)

pub replies_of_ids : (nodes : ℕ) (w : World) → IsReached nodes w → (ids : List CmdId) → AreAsked w ids → replies_of w ≡ map (reply_in w) ids
replies_of_ids nodes w r ids a =
    replies_by nodes w r (map alone ids) (alone_rising ids a.ascending) (λ q. alone_found ids q ∙ a.each q) ∙ alone_map w ids

-- a book by attempt
abbrev into : Book → CmdId × Booked → Book
into sorted e = insert_entry cmd_cmp sorted e.0 e.1

sorted_rising : (book sorted : Book) → IsRising sorted → IsRising (fold into sorted book)
sorted_rising [] sorted h = h
sorted_rising (e ∷ book) sorted h = sorted_rising book (into sorted e) (put_rising sorted e.0 e.1 h)

put_known : (sorted : Book) (id : CmdId) (b : Booked) (q : CmdId) → is_some (found (insert_entry cmd_cmp sorted id b) q) ≡ (same_id q id || is_some (found sorted q))
put_known sorted id b q = ⊎_elim
    (λ (same : q ≡ id).
    subst (λ z. is_some (found (insert_entry cmd_cmp sorted id b) z) ≡ (same_id z id || is_some (found sorted z))) (sym same)
    (ap is_some (put_itself sorted id b) ∙ sym (ap (λ t. t || is_some (found sorted id)) (same_itself id))))
    (λ (ne : q ≡ id → ⊥). ap is_some (put_other sorted id b q ne) ∙ sym (ap (λ t. t || is_some (found sorted q)) (apart_not_same q id ne)))
    (id_cases q id)

or_turned : (a b c : Bool) → (a || (b || c)) ≡ (b || (a || c))
or_turned true true c = refl
or_turned true false c = refl
or_turned false b c = refl

or_false : (a : Bool) → (a || false) ≡ a
or_false true = refl
or_false false = refl

sorted_known : (book sorted : Book) (q : CmdId) → is_some (found (fold into sorted book) q) ≡ (is_some (booking_of q book) || is_some (found sorted q))
sorted_known [] sorted q = refl
sorted_known (e ∷ book) sorted q =
    sorted_known book (into sorted e) q ∙ ap (λ b. is_some (booking_of q book) || b) (put_known sorted e.0 e.1 q) ∙ or_turned (is_some (booking_of q book)) (same_id q e.0) (is_some (found sorted q))
    ∙ ap (λ b. b) (go (same_id q e.0))
  where
    go : (b : Bool) → (b || (is_some (booking_of q book) || is_some (found sorted q))) ≡ (is_some (cond b (Some e.1) (booking_of q book)) || is_some (found sorted q))
    go true = refl
    go false = refl

pub replies_of_book : (nodes : ℕ) (w : World) → IsReached nodes w → (book : Book) → ((id : CmdId) → is_some (booking_of id book) ≡ was_asked w id)
    → replies_of w ≡ map (λ e. reply_in w e.0) (by_attempt book)
replies_of_book nodes w r book each =
    replies_by nodes w r (by_attempt book) (sorted_rising book [] tt) (λ q. sorted_known book [] q ∙ or_false (is_some (booking_of q book)) ∙ each q)

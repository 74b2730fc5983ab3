-- What attempts were told can be shown.
use Rattle.std.proofs.Common.{◌≡◌, ℕ, suc, Option, None, Some, Bool, true, false, cond, List, [], ◌∷◌, refl, sym, ap, subst, ◌∙◌}
use Rattle.std.specs.Prelude.{All, map, slice_get}
use Rattle.std.specs.List.{find, AllByRecursion}
use Rattle.std.specs.Option.{option_and_then, option_map, option_map_or}
use Rattle.std.specs.BTreeMap.{insert_entry}
use Rattle.std.specs.Ordering.{match_ordering}
use Rattle.std.specs.declared.cmp.Ordering.{Ordering}
use Rattle.std.specs.declared.cmp.Ordering.TheVariants.{Less, Equal, Greater}
use Rattle.std.proofs.lemmas.List.Elements.{All-from_recursion}
use Rattle.rp_base.specs.Ids.{cmd_cmp, same_id}
use Rattle.rp_base.specs.declared.ids.CmdId.{CmdId}
use Rattle.rp_request.specs.declared.outcomes.Outcome.{Outcome}
use Rattle.rp_request.specs.declared.outcomes.Outcome.TheVariants as outcomes
use Rattle.rp_report.specs.Shown.{IsShownAnswer, IsShownOutcome}
use Rattle.rp_events.specs.declared.answers.Ended.{Ended}
use Rattle.rp_events.specs.declared.answers.EventAnswer.{EventAnswer}
use Rattle.rp_events.specs.declared.answers.EventAnswer.TheVariants as answers
use Rattle.rp_events.specs.declared.journals.JournalEntry.{JournalEntry}
use Rattle.rp_events.specs.declared.journals.PastEvent.{PastEvent}
use Rattle.rp_events.specs.declared.journals.PastEvent.TheVariants as past
use Rattle.rp_events.specs.Nodes.{Node}
use Rattle.rp_events.specs.Worlds.{World, asked_at, is_admission_of, outcome_at, outcome_by, outcome_of, taken_in}
use Rattle.rp_events.specs.Lawful.{IsReached}
use Rattle.rp_events.specs.Lists.{history_in, IsWritten}
use Rattle.rp_lines.specs.Views.{Ends, with_end, ends_in, ends_of, reply_of, replies_of}
use Rattle.rp_journals.specs.Entries.{WasWritten}
use Rattle.rp_journals.proofs.Writing.{written}
use Rattle.rp_recorded.proofs.Refusals.{IsShownIn, entry_shown}
use Rattle.rp_recorded.proofs.Ends.{AreShownEnds, reached_ends}
use Rattle.rp_recorded.proofs.Descs.{numbered}

abbrev IsShownEntry : CmdId × Outcome → Type 0
IsShownEntry e = IsShownOutcome e.1

abbrev AreShown : Ends → Type 0
AreShown es = AllByRecursion IsShownEntry es

-- an outcome more
insert_by : (o : Ordering) (es rest : Ends) (e : CmdId × Outcome) (id : CmdId) (v : Outcome) → IsShownOutcome v → IsShownOutcome e.1 → AreShown es
    → AreShown rest → AreShown (match_ordering o ((id, v) ∷ e ∷ es) ((e.0, v) ∷ es) (e ∷ rest))
insert_by Less es rest e id v h k all more = (h, (k, all))
insert_by Equal es rest e id v h k all more = (h, all)
insert_by Greater es rest e id v h k all more = (k, more)

inserted : (es : Ends) (id : CmdId) (v : Outcome) → IsShownOutcome v → AreShown es → AreShown (insert_entry cmd_cmp es id v)
inserted [] id v h all = (h, tt)
inserted (e ∷ es) id v h all = insert_by (cmd_cmp id e.0) es (insert_entry cmd_cmp es id v) e id v h all.0 all.1 (inserted es id v h all.1)

-- the outcome that a node's list has, or that it is pending
found_shown : (test : Ended → Bool) (es : List Ended) → AreShownEnds es → IsShownOutcome (option_map_or (λ outcome. outcome) (option_map (λ (e : Ended). e.outcome) (find test es)) outcomes.Pending)
found_shown test [] h = tt
found_shown test (e ∷ es) h = go (test e) (found_shown test es h.1) where
  go : (b : Bool) → IsShownOutcome (option_map_or (λ outcome. outcome) (option_map (λ (x : Ended). x.outcome) (find test es)) outcomes.Pending)
      → IsShownOutcome (option_map_or (λ outcome. outcome) (option_map (λ (x : Ended). x.outcome) (cond b (Some e) (find test es))) outcomes.Pending)
  go true more = h.0
  go false more = more

told_shown : (n : Node) (id : CmdId) (a : EventAnswer) → AreShownEnds n.outcomes → IsShownIn a → IsShownOutcome (outcome_by n id a)
told_shown n id answers.Done h k = found_shown (λ e. same_id e.id id) n.outcomes h
told_shown n id answers.Nothing h k = found_shown (λ e. same_id e.id id) n.outcomes h
told_shown n id answers.Admitted h k = found_shown (λ e. same_id e.id id) n.outcomes h
told_shown n id (answers.Asked ask) h k = found_shown (λ e. same_id e.id id) n.outcomes h
told_shown n id (answers.Refused refusal) h k = k
told_shown n id (answers.LeaseHeld lease ticks) h k = found_shown (λ e. same_id e.id id) n.outcomes h
told_shown n id (answers.Value value applied) h k = found_shown (λ e. same_id e.id id) n.outcomes h

-- the answers to the admissions in a journal
abbrev EntryShown : PastEvent → EventAnswer → Type 0
EntryShown (past.Admit range id place) a = IsShownIn a
EntryShown (past.Ask range) a = Unit {0}
EntryShown (past.Transfer range to) a = Unit {0}
EntryShown (past.Collect range taken) a = Unit {0}
EntryShown (past.Flush range) a = Unit {0}
EntryShown past.Tick a = Unit {0}
EntryShown (past.Deliver from number) a = Unit {0}
EntryShown (past.Apply range) a = Unit {0}
EntryShown (past.Cut range) a = Unit {0}
EntryShown (past.Remove range) a = Unit {0}
EntryShown (past.Peek range key) a = Unit {0}
EntryShown past.Restart a = Unit {0}
EntryShown (past.Round sent) a = Unit {0}

abbrev JournalShown : List JournalEntry → Type 0
JournalShown es = AllByRecursion (λ (e : JournalEntry). EntryShown e.event e.answer) es

end_shown : (n : Node) (ends : Ends) (event : PastEvent) (a : EventAnswer) → AreShownEnds n.outcomes → AreShown ends → EntryShown event a → AreShown (with_end n ends (record { event = event; answer = a }))
end_shown n ends (past.Admit range id place) a h all k = inserted ends id (outcome_by n id a) (told_shown n id a h k) all
end_shown n ends (past.Ask range) a h all k = all
end_shown n ends (past.Transfer range to) a h all k = all
end_shown n ends (past.Collect range taken) a h all k = all
end_shown n ends (past.Flush range) a h all k = all
end_shown n ends past.Tick a h all k = all
end_shown n ends (past.Deliver from number) a h all k = all
end_shown n ends (past.Apply range) a h all k = all
end_shown n ends (past.Cut range) a h all k = all
end_shown n ends (past.Remove range) a h all k = all
end_shown n ends (past.Peek range key) a h all k = all
end_shown n ends past.Restart a h all k = all
end_shown n ends (past.Round sent) a h all k = all

ends_in_shown : (n : Node) (es : List JournalEntry) (ends : Ends) → AreShownEnds n.outcomes → AreShown ends → JournalShown es → AreShown (ends_in n ends es)
ends_in_shown n [] ends h all k = all
ends_in_shown n (e ∷ es) ends h all k = ends_in_shown n es (with_end n ends e) h (end_shown n ends e.event e.answer h all k.0) k.1

-- a node whose ends and journal can be shown
abbrev IsShownNode : Node → Type 0
IsShownNode n = AreShownEnds n.outcomes × JournalShown n.journal

ends_of_shown : (w : World) (ends : Ends) → AreShown ends → AllByRecursion IsShownNode w → AreShown (ends_of ends w)
ends_of_shown [] ends all k = all
ends_of_shown (n ∷ w) ends all k = ends_of_shown w (ends_in n ends n.journal) (ends_in_shown n n.journal ends k.0.0 all k.0.1) k.1

replies_shown : (ends : Ends) → AreShown ends → AllByRecursion IsShownAnswer (map reply_of ends)
replies_shown [] all = tt
replies_shown (e ∷ ends) all = (all.0, replies_shown ends all.1)

-- what holds at each place
by_place : {X : Type 0} (P : X → Type 0) (xs : List X) → ((place : ℕ) (x : X) → slice_get xs place ≡ Some x → P x) → AllByRecursion P xs
by_place P [] h = tt
by_place P (x ∷ xs) h = (h 0 x refl, by_place P xs (λ place y e. h (suc place) y e))

-- what is found stands somewhere, and passes
found_in : {X : Type 0} (test : X → Bool) (xs : List X) (x : X) → find test xs ≡ Some x → (place : ℕ) × (slice_get xs place ≡ Some x) × (test x ≡ true)
found_in test [] x e = absurd cc
found_in {X} test (y ∷ xs) x e = go (test y) refl e (λ e'. found_in test xs x e') where
  some_is : (a b : X) → ◌≡◌ {A = Option X} (Some a) (Some b) → a ≡ b
  some_is a b e' = cc

  go : (b : Bool) → test y ≡ b → cond b (Some y) (find test xs) ≡ Some x → (find test xs ≡ Some x → (place : ℕ) × (slice_get xs place ≡ Some x) × (test x ≡ true))
      → (place : ℕ) × (slice_get (y ∷ xs) place ≡ Some x) × (test x ≡ true)
  go true is e' more = let same : y ≡ x = some_is y x e' in (0, ap Some same, ap test (sym same) ∙ is)
  go false is e' more = let k = more e' in (suc k.0, k.1, k.2)

none_not_some : (outcome : Outcome) → ◌≡◌ {A = Option Outcome} None (Some outcome) → ⊥
none_not_some outcome e = absurd cc

same_outcome : (a b : Outcome) → ◌≡◌ {A = Option Outcome} (Some a) (Some b) → a ≡ b
same_outcome a b e = cc

-- an entry that admits an attempt
admits_shown : (id : CmdId) (e : JournalEntry) → EntryShown e.event e.answer → is_admission_of id e ≡ true → IsShownIn e.answer
admits_shown id e shown is = go e.event refl shown where
  go : (event : PastEvent) → e.event ≡ event → EntryShown event e.answer → IsShownIn e.answer
  go (past.Admit range other place) same shown = shown
  go event same shown = absurd (let no : is_admission_of id (record { event = event; answer = e.answer }) ≡ true = sym (ap (λ v. is_admission_of id (record { event = v; answer = e.answer })) same) ∙ is in cc)

module _ (nodes : ℕ) (w : World) (reached : IsReached nodes w) where
  as_admission : (node place : ℕ) (e : JournalEntry) → IsWritten w node place e → (range : ℕ) (id : CmdId) (at : ℕ) → e.event ≡ past.Admit range id at → IsShownIn e.answer
  as_admission node place e is range id at event =
      let k : WasWritten nodes w node place e = written nodes w reached node place e is in
      subst IsShownIn (sym (ap (λ (z : JournalEntry). z.answer) k.entry))
      (entry_shown k.n (taken_in k.what)
      (λ at' r live. (numbered nodes k.before k.reached node at' r.applied (record { n = k.n; has = k.has; history = ap history_in live })).shown)
      k.event range id at (sym (ap (λ (z : JournalEntry). z.event) k.entry) ∙ event))

  entry_is_shown : (node place : ℕ) (e : JournalEntry) → IsWritten w node place e → EntryShown e.event e.answer
  entry_is_shown node place e is = go e.event refl where
    go : (event : PastEvent) → e.event ≡ event → EntryShown event e.answer
    go (past.Admit range id at) same = as_admission node place e is range id at same
    go (past.Ask range) same = tt
    go (past.Transfer range to) same = tt
    go (past.Collect range taken) same = tt
    go (past.Flush range) same = tt
    go past.Tick same = tt
    go (past.Deliver from number) same = tt
    go (past.Apply range) same = tt
    go (past.Cut range) same = tt
    go (past.Remove range) same = tt
    go (past.Peek range key) same = tt
    go past.Restart same = tt
    go (past.Round sent) same = tt

  node_shown : (place : ℕ) (n : Node) → slice_get w place ≡ Some n → IsShownNode n
  node_shown place n has = (
    reached_ends nodes w reached (suc place) n has,
    by_place (λ (e : JournalEntry). EntryShown e.event e.answer) n.journal (λ at e here. entry_is_shown (suc place) at e (record { n = n; has = has; here = here })),
  )

  pub replies_are_shown : All IsShownAnswer (replies_of w)
  replies_are_shown = All-from_recursion IsShownAnswer (replies_of w) (replies_shown (ends_of [] w) (ends_of_shown w [] tt (by_place IsShownNode w node_shown)))

  -- so can the outcome of each attempt that some journal names
  pub outcome_is_shown : (id : CmdId) (outcome : Outcome) → outcome_of w id ≡ Some outcome → IsShownOutcome outcome
  outcome_is_shown id outcome is = by_node (find (asked_at id) w) refl where
    by_entry : (place : ℕ) (n : Node) → slice_get w place ≡ Some n → outcome_at id n ≡ Some outcome → (o : Option JournalEntry) → find (is_admission_of id) n.journal ≡ o → IsShownOutcome outcome
    by_entry place n has told None none = absurd (none_not_some outcome (sym (ap (option_map (λ (e : JournalEntry). outcome_by n id e.answer)) none) ∙ told))
    by_entry place n has told (Some e) found =
        let at = found_in (is_admission_of id) n.journal e found in
        let so : ◌≡◌ {A = Option Outcome} (Some (outcome_by n id e.answer)) (Some outcome) = sym (ap (option_map (λ (e : JournalEntry). outcome_by n id e.answer)) found) ∙ told in
        subst IsShownOutcome (same_outcome (outcome_by n id e.answer) outcome so)
        (told_shown n id e.answer (reached_ends nodes w reached (suc place) n has)
        (admits_shown id e (entry_is_shown (suc place) at.0 e (record { n = n; has = has; here = at.1 })) at.2))

    by_node : (o : Option Node) → find (asked_at id) w ≡ o → IsShownOutcome outcome
    by_node None none = absurd (none_not_some outcome (sym (ap (option_and_then (outcome_at id)) none) ∙ is))
    by_node (Some n) found =
        let at = found_in (asked_at id) w n found in
        by_entry at.0 n at.1 (sym (ap (option_and_then (outcome_at id)) found) ∙ is) (find (is_admission_of id) n.journal) refl

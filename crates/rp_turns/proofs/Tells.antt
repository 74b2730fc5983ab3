-- What a node tells once further attempts have ended and the journal has gone on.
use Rattle.std.proofs.Common.{◌≡◌, Bool, true, false, cond, Option, None, Some, List, [], ◌∷◌, ◌++◌, refl, sym, ap, subst, ◌∙◌}
use Rattle.std.specs.List.{find}
use Rattle.std.specs.Option.{option_map, option_map_or}
use Rattle.rp_base.specs.Ids.{same_id}
use Rattle.rp_base.specs.declared.ids.CmdId.{CmdId}
use Rattle.rp_base.proofs.IdLaws.{same_is}
use Rattle.rp_request.specs.declared.outcomes.Outcome.{Outcome}
use Rattle.rp_request.specs.declared.outcomes.Outcome.TheVariants as outcomes
use Rattle.rp_events.specs.declared.answers.Ended.{Ended}
use Rattle.rp_events.specs.declared.answers.EventAnswer.{EventAnswer}
use Rattle.rp_events.specs.declared.answers.EventAnswer.TheVariants as answers
use Rattle.rp_events.specs.declared.journals.JournalEntry.{JournalEntry}
use Rattle.rp_events.specs.Nodes.{Node}
use Rattle.rp_events.specs.Worlds.{is_admission_of, outcome_by, outcome_at}
use Rattle.rp_seats.specs.Steps.{tell, EndEach, IsEnd}
use Rattle.rp_seats.proofs.Outcomes.{found_before, found_behind}

-- the end of an attempt among these
abbrev pub end_in : CmdId → List Ended → Option Ended
end_in id es = find (λ e. same_id e.id id) es

-- the attempt has no end among these
abbrev pub Lacks : CmdId → List Ended → Type 0
Lacks id es = end_in id es ≡ None

lacks_front : (test : Ended → Bool) (xs ys : List Ended) → find test ys ≡ None → find test (xs ++ ys) ≡ find test xs
lacks_front test xs ys lacks = go (find test xs) refl where
  go : (o : Option Ended) → find test xs ≡ o → find test (xs ++ ys) ≡ find test xs
  go None e = found_behind test xs ys e ∙ lacks ∙ sym e
  go (Some x) e = found_before test xs ys x e ∙ sym e

-- ends of others in front of more
pub lacking : (id : CmdId) (xs ys : List Ended) → Lacks id ys → end_in id (xs ++ ys) ≡ end_in id xs
lacking id xs ys lacks = lacks_front (λ e. same_id e.id id) xs ys lacks

pub further_same : (id : CmdId) (xs ys zs : List Ended) → end_in id xs ≡ end_in id ys → end_in id (xs ++ zs) ≡ end_in id (ys ++ zs)
further_same id xs ys zs same = go (end_in id xs) refl where
  go : (o : Option Ended) → end_in id xs ≡ o → end_in id (xs ++ zs) ≡ end_in id (ys ++ zs)
  go None e = found_behind (λ x. same_id x.id id) xs zs e ∙ sym (found_behind (λ x. same_id x.id id) ys zs (sym same ∙ e))
  go (Some x) e = found_before (λ x. same_id x.id id) xs zs x e ∙ sym (found_before (λ x. same_id x.id id) ys zs x (sym same ∙ e))

-- who was told nothing has no end among what ended
pub told_none : (told : CmdId → Option Outcome) (es : List Ended) → EndEach told es → (id : CmdId) → told id ≡ None → Lacks id es
told_none told [] h id none = refl
told_none told (e ∷ es) h id none = go (λ k. told_none (tell told e) es h.2 id k) (same_id e.id id) refl where
  pending_none : ◌≡◌ {A = Option Outcome} (Some outcomes.Pending) None → ⊥
  pending_none k = cc

  other : (b : Bool) → same_id id e.id ≡ b → tell told e id ≡ None
  other true is = absurd (pending_none (sym h.0 ∙ ap told (sym (same_is id e.id is)) ∙ none))
  other false is = ap (λ b. cond b (Some e.outcome) (told id)) is ∙ none

  go : (tell told e id ≡ None → Lacks id es) → (b : Bool) → same_id e.id id ≡ b → cond b (Some e) (find (λ x. same_id x.id id) es) ≡ None
  go ih true is = absurd (pending_none (sym h.0 ∙ ap told (same_is e.id id is) ∙ none))
  go ih false is = ih (other (same_id id e.id) refl)

-- an end, or pending
abbrev or_pending : Option Ended → Outcome
or_pending z = option_map_or (λ (o : Outcome). o) (option_map (λ (y : Ended). y.outcome) z) outcomes.Pending

-- what is told hangs on the journal's admission and on the end
pub told_by : (n m : Node) (id : CmdId) → find (is_admission_of id) n.journal ≡ find (is_admission_of id) m.journal → end_in id n.outcomes ≡ end_in id m.outcomes
    → outcome_at id n ≡ outcome_at id m
told_by n m id journal ends =
    ap (option_map (λ (x : JournalEntry). outcome_by n id x.answer)) journal ∙ go (find (is_admission_of id) m.journal)
  where
    by : (a : EventAnswer) → outcome_by n id a ≡ outcome_by m id a
    by answers.Done = ap or_pending ends
    by answers.Nothing = ap or_pending ends
    by answers.Admitted = ap or_pending ends
    by (answers.Asked ask) = ap or_pending ends
    by (answers.Refused why) = refl
    by (answers.LeaseHeld lease ticks) = ap or_pending ends
    by (answers.Value value applied) = ap or_pending ends

    go : (o : Option JournalEntry) → option_map (λ (x : JournalEntry). outcome_by n id x.answer) o ≡ option_map (λ (x : JournalEntry). outcome_by m id x.answer) o
    go None = refl
    go (Some x) = ap Some (by x.answer)

-- an entry that is no admission of the attempt
pub no_admission : (journal : List JournalEntry) (x : JournalEntry) (id : CmdId) → is_admission_of id x ≡ false → find (is_admission_of id) (journal ++ x ∷ []) ≡ find (is_admission_of id) journal
no_admission journal x id other = go (find (is_admission_of id) journal) refl where
  go : (o : Option JournalEntry) → find (is_admission_of id) journal ≡ o → find (is_admission_of id) (journal ++ x ∷ []) ≡ find (is_admission_of id) journal
  go None e = found_behind (is_admission_of id) journal (x ∷ []) e ∙ ap (λ b. cond b (Some x) None) other ∙ sym e
  go (Some y) e = found_before (is_admission_of id) journal (x ∷ []) y e ∙ sym e

none_is : (n : Node) (id : CmdId) (o : Option JournalEntry) → find (is_admission_of id) n.journal ≡ o → outcome_at id n ≡ None → find (is_admission_of id) n.journal ≡ None
none_is n id None e none = e
none_is n id (Some x) e none = absurd (some_none (outcome_by n id x.answer) (sym (ap (option_map (λ (y : JournalEntry). outcome_by n id y.answer)) e) ∙ none)) where
  some_none : (o : Outcome) → ◌≡◌ {A = Option Outcome} (Some o) None → ⊥
  some_none o k = cc

-- who was told nothing has no admission, and is told nothing as long as none is written
pub nothing_asked : (n : Node) (id : CmdId) → outcome_at id n ≡ None → find (is_admission_of id) n.journal ≡ None
nothing_asked n id none = none_is n id (find (is_admission_of id) n.journal) refl none

pub not_asked : (n : Node) (id : CmdId) → find (is_admission_of id) n.journal ≡ None → outcome_at id n ≡ None
not_asked n id none = ap (option_map (λ (x : JournalEntry). outcome_by n id x.answer)) none

pub nothing_stays : (n new : Node) (x : JournalEntry) → new.journal ≡ n.journal ++ x ∷ [] → (id : CmdId) → is_admission_of id x ≡ false → outcome_at id n ≡ None → outcome_at id new ≡ None
nothing_stays n new x is id other none =
    not_asked new id (ap (find (is_admission_of id)) is ∙ no_admission n.journal x id other ∙ nothing_asked n id none)

-- an end stays
pub end_stays : (n new : Node) (x : JournalEntry) (more : List Ended) → new.journal ≡ n.journal ++ x ∷ [] → new.outcomes ≡ n.outcomes ++ more
    → (id : CmdId) (o : Outcome) → outcome_at id n ≡ Some o → IsEnd o → outcome_at id new ≡ Some o
end_stays n new x more journal outcomes_are id o told end = by_entry (find (is_admission_of id) n.journal) refl where
  some_is : (a b : Outcome) → ◌≡◌ {A = Option Outcome} (Some a) (Some b) → a ≡ b
  some_is a b e = cc

  none_some : ◌≡◌ {A = Option Outcome} None (Some o) → ⊥
  none_some e = cc

  by_end : (z : Option Ended) → end_in id n.outcomes ≡ z → or_pending z ≡ o → or_pending (end_in id new.outcomes) ≡ o
  by_end None e is = absurd (subst IsEnd (sym is) end)
  by_end (Some y) e is = ap or_pending (ap (end_in id) outcomes_are ∙ found_before (λ z. same_id z.id id) n.outcomes more y e) ∙ is

  by_answer : (a : EventAnswer) → outcome_by n id a ≡ o → outcome_by new id a ≡ o
  by_answer answers.Done is = by_end (end_in id n.outcomes) refl is
  by_answer answers.Nothing is = by_end (end_in id n.outcomes) refl is
  by_answer answers.Admitted is = by_end (end_in id n.outcomes) refl is
  by_answer (answers.Asked ask) is = by_end (end_in id n.outcomes) refl is
  by_answer (answers.Refused why) is = is
  by_answer (answers.LeaseHeld lease ticks) is = by_end (end_in id n.outcomes) refl is
  by_answer (answers.Value value applied) is = by_end (end_in id n.outcomes) refl is

  by_entry : (z : Option JournalEntry) → find (is_admission_of id) n.journal ≡ z → outcome_at id new ≡ Some o
  by_entry None e = absurd (none_some (sym (ap (option_map (λ (y : JournalEntry). outcome_by n id y.answer)) e) ∙ told))
  by_entry (Some y) e =
      ap (option_map (λ (z : JournalEntry). outcome_by new id z.answer)) (ap (find (is_admission_of id)) journal ∙ found_before (is_admission_of id) n.journal (x ∷ []) y e)
      ∙ ap Some (by_answer y.answer (some_is (outcome_by n id y.answer) o (sym (ap (option_map (λ (z : JournalEntry). outcome_by n id z.answer)) e) ∙ told)))

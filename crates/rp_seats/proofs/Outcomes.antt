-- What a node's journal and outcomes tell once more attempts have ended.
use Rattle.std.proofs.Common.{◌≡◌, Bool, true, false, cond, Option, None, Some, List, [], ◌∷◌, ◌++◌, refl, sym, ap, subst, ◌∙◌, append-nil}
use Rattle.std.specs.List.{find}
use Rattle.std.specs.Option.{option_map, option_map_or}
use Rattle.rp_base.specs.Ids.{same_id}
use Rattle.rp_base.specs.declared.ids.CmdId.{CmdId}
use Rattle.rp_base.proofs.IdLaws.{same_is, same_back}
use Rattle.rp_request.specs.declared.outcomes.Outcome.{Outcome}
use Rattle.rp_request.specs.declared.outcomes.Outcome.TheVariants as outcomes
use Rattle.rp_events.specs.declared.answers.Ended.{Ended}
use Rattle.rp_events.specs.declared.answers.EventAnswer.{EventAnswer}
use Rattle.rp_events.specs.declared.answers.EventAnswer.TheVariants as answers
use Rattle.rp_events.specs.declared.journals.JournalEntry.{JournalEntry}
use Rattle.rp_events.specs.Nodes.{Node}
use Rattle.rp_events.specs.Worlds.{is_admission_of, ended_of, outcome_by, outcome_at}
use Rattle.rp_seats.specs.Steps.{tell, told_after, IsEnd, EndEach, AreEnds, with_outcomes}

-- what is found in a list and in more behind it
pub found_before : {X : Type 0} (test : X → Bool) (xs ys : List X) (x : X) → find test xs ≡ Some x → find test (xs ++ ys) ≡ Some x
found_before test [] ys x e = absurd cc
found_before {X} test (z ∷ xs) ys x e = go (found_before test xs ys x) (test z) e where
  go : (find test xs ≡ Some x → find test (xs ++ ys) ≡ Some x) → (b : Bool) → cond b (Some z) (find test xs) ≡ Some x → cond b (Some z) (find test (xs ++ ys)) ≡ Some x
  go ih true e' = e'
  go ih false e' = ih e'

pub found_behind : {X : Type 0} (test : X → Bool) (xs ys : List X) → find test xs ≡ None → find test (xs ++ ys) ≡ find test ys
found_behind test [] ys e = refl
found_behind {X} test (z ∷ xs) ys e = go (found_behind test xs ys) (test z) e where
  go : (find test xs ≡ None → find test (xs ++ ys) ≡ find test ys) → (b : Bool) → cond b (Some z) (find test xs) ≡ None → cond b (Some z) (find test (xs ++ ys)) ≡ find test ys
  go ih true e' = absurd cc
  go ih false e' = ih e'

pub found_end : (test : Ended → Bool) (es : List Ended) (e : Ended) → AreEnds es → find test es ≡ Some e → IsEnd e.outcome
found_end test [] e h is = absurd cc
found_end test (x ∷ es) e h is = go (found_end test es e h.1) (test x) is where
  some_is : (a b : Ended) → ◌≡◌ {A = Option Ended} (Some a) (Some b) → a ≡ b
  some_is a b e = cc

  go : (find test es ≡ Some e → IsEnd e.outcome) → (b : Bool) → cond b (Some x) (find test es) ≡ Some e → IsEnd e.outcome
  go ih true is' = subst (λ (z : Ended). IsEnd z.outcome) (some_is x e is') h.0
  go ih false is' = ih is'

pending_no_end : (o : Outcome) → IsEnd o → ◌≡◌ {A = Option Outcome} (Some o) (Some outcomes.Pending) → ⊥
pending_no_end o h e = subst IsEnd (some_is o outcomes.Pending e) h where
  some_is : (a b : Outcome) → ◌≡◌ {A = Option Outcome} (Some a) (Some b) → a ≡ b
  some_is a b e' = cc

module _ (n : Node) (ends : AreEnds n.outcomes) (e : Ended) (pending : outcome_at e.id n ≡ Some outcomes.Pending) (id : CmdId) where
  abbrev m : Node
  m = with_outcomes n (e ∷ [])

  -- of an id that has the end: it was pending
  was_pending : same_id id e.id ≡ true → outcome_at id n ≡ Some outcomes.Pending
  was_pending is = subst (λ z. outcome_at z n ≡ Some outcomes.Pending) (sym (same_is id e.id is)) pending

  -- an answer that leaves it to the list of outcomes
  by_list : (was : same_id id e.id ≡ true → Some (option_map_or (λ (o : Outcome). o) (ended_of id n.outcomes) outcomes.Pending) ≡ Some outcomes.Pending)
      → Some (option_map_or (λ (o : Outcome). o) (ended_of id (n.outcomes ++ e ∷ [])) outcomes.Pending)
      ≡ cond (same_id id e.id) (Some e.outcome) (Some (option_map_or (λ (o : Outcome). o) (ended_of id n.outcomes) outcomes.Pending))
  by_list was = go (find (λ x. same_id x.id id) n.outcomes) refl (same_id id e.id) refl where
    ended_as : (o : Option Ended) → find (λ x. same_id x.id id) n.outcomes ≡ o → Some (option_map_or (λ (o : Outcome). o) (ended_of id n.outcomes) outcomes.Pending)
        ≡ Some (option_map_or (λ (o : Outcome). o) (option_map (λ (x : Ended). x.outcome) o) outcomes.Pending)
    ended_as o is = ap (λ z. Some (option_map_or (λ (o : Outcome). o) (option_map (λ (x : Ended). x.outcome) z) outcomes.Pending)) is

    go : (o : Option Ended) → find (λ x. same_id x.id id) n.outcomes ≡ o → (b : Bool) → same_id id e.id ≡ b
        → Some (option_map_or (λ (o : Outcome). o) (ended_of id (n.outcomes ++ e ∷ [])) outcomes.Pending)
        ≡ cond (same_id id e.id) (Some e.outcome) (Some (option_map_or (λ (o : Outcome). o) (ended_of id n.outcomes) outcomes.Pending))
    go (Some x) is true same = absurd (pending_no_end x.outcome (found_end (λ y. same_id y.id id) n.outcomes x ends is) (sym (ended_as (Some x) is) ∙ was same))
    go (Some x) is false same =
        ap (λ z. Some (option_map_or (λ (o : Outcome). o) (option_map (λ (x : Ended). x.outcome) z) outcomes.Pending)) (found_before (λ y. same_id y.id id) n.outcomes (e ∷ []) x is)
        ∙ sym (ended_as (Some x) is)
        ∙ sym (ap (λ b. cond b (Some e.outcome) (Some (option_map_or (λ (o : Outcome). o) (ended_of id n.outcomes) outcomes.Pending))) same)
    go None is b same =
        ap (λ z. Some (option_map_or (λ (o : Outcome). o) (option_map (λ (x : Ended). x.outcome) z) outcomes.Pending)) (found_behind (λ y. same_id y.id id) n.outcomes (e ∷ []) is)
        ∙ last (same_id e.id id) ∙ ap (λ c. cond c (Some e.outcome) (Some outcomes.Pending)) (same_back e.id id)
        ∙ ap (λ z. cond (same_id id e.id) (Some e.outcome) z) (sym (ended_as None is))
      where
        last : (c : Bool) → Some (option_map_or (λ (o : Outcome). o) (option_map (λ (x : Ended). x.outcome) (cond c (Some e) None)) outcomes.Pending) ≡ cond c (Some e.outcome) (Some outcomes.Pending)
        last true = refl
        last false = refl

  by_answer : (a : EventAnswer) → (same_id id e.id ≡ true → Some (outcome_by n id a) ≡ Some outcomes.Pending) → Some (outcome_by m id a) ≡ cond (same_id id e.id) (Some e.outcome) (Some (outcome_by n id a))
  by_answer answers.Done was = by_list was
  by_answer answers.Nothing was = by_list was
  by_answer answers.Admitted was = by_list was
  by_answer (answers.Asked ask) was = by_list was
  by_answer (answers.Refused why) was = refused (same_id id e.id) refl where
    refused : (b : Bool) → same_id id e.id ≡ b → Some (outcomes.Refused why) ≡ cond (same_id id e.id) (Some e.outcome) (Some (outcomes.Refused why))
    refused true same = absurd (pending_no_end (outcomes.Refused why) tt (was same))
    refused false same = sym (ap (λ b. cond b (Some e.outcome) (Some (outcomes.Refused why))) same)
  by_answer (answers.LeaseHeld lease ticks) was = by_list was
  by_answer (answers.Value value applied) was = by_list was

  one_told : outcome_at id m ≡ tell (λ q. outcome_at q n) e id
  one_told = go (find (is_admission_of id) n.journal) was_pending where
    go : (o : Option JournalEntry) → (same_id id e.id ≡ true → option_map (λ (x : JournalEntry). outcome_by n id x.answer) o ≡ Some outcomes.Pending)
        → option_map (λ (x : JournalEntry). outcome_by m id x.answer) o ≡ cond (same_id id e.id) (Some e.outcome) (option_map (λ (x : JournalEntry). outcome_by n id x.answer) o)
    go None was = none_asked (same_id id e.id) refl where
      none_asked : (b : Bool) → same_id id e.id ≡ b → None ≡ cond (same_id id e.id) (Some e.outcome) None
      none_asked true same = absurd (let k = was same in cc)
      none_asked false same = sym (ap (λ b. cond b (Some e.outcome) None) same)
    go (Some x) was = by_answer x.answer was

-- what is told, where it is told the same before
told_same : (t u : CmdId → Option Outcome) → ((q : CmdId) → t q ≡ u q) → (es : List Ended) (id : CmdId) → told_after t es id ≡ told_after u es id
told_same t u same [] id = same id
told_same t u same (e ∷ es) id = told_same (tell t e) (tell u e) (λ q. ap (λ z. cond (same_id q e.id) (Some e.outcome) z) (same q)) es id

each_same : (t u : CmdId → Option Outcome) → ((q : CmdId) → t q ≡ u q) → (es : List Ended) → EndEach t es → EndEach u es
each_same t u same [] h = tt
each_same t u same (e ∷ es) h = (sym (same e.id) ∙ h.0, h.1, each_same (tell t e) (tell u e) (λ q. ap (λ z. cond (same_id q e.id) (Some e.outcome) z) (same q)) es h.2)

pub ends_further : (xs : List Ended) (e : Ended) → AreEnds xs → IsEnd e.outcome → AreEnds (xs ++ e ∷ [])
ends_further [] e h is = (is, tt)
ends_further (x ∷ xs) e h is = (h.0, ends_further xs e h.1 is)

-- the outcomes of a node, once these have ended
pub all_told_so : (n : Node) (es : List Ended) → AreEnds n.outcomes → EndEach (λ q. outcome_at q n) es → (id : CmdId)
    → outcome_at id (with_outcomes n es) ≡ told_after (λ q. outcome_at q n) es id
all_told_so n [] ends h id = ap (λ l. outcome_at id (record n { outcomes = l })) (append-nil n.outcomes)
all_told_so n (e ∷ es) ends h id =
    let m = with_outcomes n (e ∷ []) in
    let same : (q : CmdId) → tell (λ p. outcome_at p n) e q ≡ outcome_at q m = λ q. sym (one_told n ends e h.0 q) in
    ap (λ l. outcome_at id (record n { outcomes = l })) (behind n.outcomes e es)
    ∙ all_told_so m es (ends_further n.outcomes e ends h.1) (each_same (tell (λ p. outcome_at p n) e) (λ q. outcome_at q m) same es h.2) id
    ∙ told_same (λ q. outcome_at q m) (tell (λ p. outcome_at p n) e) (λ q. sym (same q)) es id
  where
    behind : (xs : List Ended) (x : Ended) (ys : List Ended) → xs ++ x ∷ ys ≡ (xs ++ x ∷ []) ++ ys
    behind [] x ys = refl
    behind (y ∷ xs) x ys = ap (λ zs. y ∷ zs) (behind xs x ys)

pub all_ends : (xs es : List Ended) (t : CmdId → Option Outcome) → AreEnds xs → EndEach t es → AreEnds (xs ++ es)
all_ends [] [] t h k = tt
all_ends [] (e ∷ es) t h k = (k.1, all_ends [] es (tell t e) tt k.2)
all_ends (x ∷ xs) es t h k = (h.0, all_ends xs es t h.1 k)

-- a journal's entry that is no admission of the attempt tells nothing
pub journal_told : (n : Node) (x : JournalEntry) (id : CmdId) → is_admission_of id x ≡ false → outcome_at id (record n { journal = n.journal ++ x ∷ [] }) ≡ outcome_at id n
journal_told n x id other = go (find (is_admission_of id) n.journal) refl where
  same_by : (a : EventAnswer) → outcome_by (record n { journal = n.journal ++ x ∷ [] }) id a ≡ outcome_by n id a
  same_by answers.Done = refl
  same_by answers.Nothing = refl
  same_by answers.Admitted = refl
  same_by (answers.Asked ask) = refl
  same_by (answers.Refused why) = refl
  same_by (answers.LeaseHeld lease ticks) = refl
  same_by (answers.Value value applied) = refl

  go : (o : Option JournalEntry) → find (is_admission_of id) n.journal ≡ o → outcome_at id (record n { journal = n.journal ++ x ∷ [] }) ≡ outcome_at id n
  go None is =
      ap (option_map (λ (y : JournalEntry). outcome_by (record n { journal = n.journal ++ x ∷ [] }) id y.answer)) (found_behind (is_admission_of id) n.journal (x ∷ []) is
      ∙ ap (λ b. cond b (Some x) None) other)
      ∙ sym (ap (option_map (λ (y : JournalEntry). outcome_by n id y.answer)) is)
  go (Some y) is =
      ap (option_map (λ (y : JournalEntry). outcome_by (record n { journal = n.journal ++ x ∷ [] }) id y.answer)) (found_before (is_admission_of id) n.journal (x ∷ []) y is)
      ∙ ap Some (same_by y.answer)
      ∙ sym (ap (option_map (λ (y : JournalEntry). outcome_by n id y.answer)) is)

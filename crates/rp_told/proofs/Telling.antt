-- The outcome of each attempt after a lawful scene.
use Rattle.std.proofs.Common.{◌≡◌, ⊎_elim, ℕ, zero, suc, ◌<◌, Bool, true, false, cond, Option, None, Some, List, [], ◌∷◌, ◌++◌, refl, sym, ap, subst, ◌∙◌, arith}
use Rattle.std.specs.Prelude.{◌||◌, option_and_then}
use Rattle.std.specs.List.{find}
use Rattle.std.specs.Option.{option_map, option_map_or}
use Rattle.std.proofs.lemmas.Bool.{cases_eq}
use Rattle.rp_base.specs.Ids.{same_id}
use Rattle.rp_base.specs.declared.ids.CmdId.{CmdId}
use Rattle.rp_request.specs.declared.outcomes.Outcome.{Outcome}
use Rattle.rp_request.specs.declared.outcomes.Outcome.TheVariants as outcomes
use Rattle.rp_request.specs.declared.outcomes.Refusal.{Refusal}
use Rattle.rp_events.specs.declared.answers.Ended.{Ended}
use Rattle.rp_events.specs.declared.answers.EventAnswer.{EventAnswer}
use Rattle.rp_events.specs.declared.answers.EventAnswer.TheVariants as answers
use Rattle.rp_events.specs.declared.journals.JournalEntry.{JournalEntry}
use Rattle.rp_events.specs.Nodes.{Node}
use Rattle.rp_events.specs.Worlds.{World, Scene, node_of, with_node, happens, is_admission_of, asked_at, was_asked, ended_of, outcome_by, outcome_at, outcome_of}
use Rattle.rp_events.specs.Lawful.{IsReached}
use Rattle.rp_journals.specs.Asked.{AskedOnce}
use Rattle.rp_journals.specs.Ended.{is_granted}
use Rattle.rp_journals.proofs.Asking.{asked_once, new_unasked, none_counted, node_any, true_not_false}
use Rattle.rp_journals.proofs.Balancing.{balanced, both_fewer}
use Rattle.rp_journals.proofs.Ending.{found_passes}
use Rattle.rp_journals.proofs.Growing.{one_node}
use Rattle.rp_journals.proofs.Lists.{found_front}
use Rattle.rp_journals.proofs.Telling.{found_place}
use Rattle.rp_journals.proofs.Waiting.{any_place, outcome_here}
use Rattle.rp_told.specs.Turns.{Turns, answer_of, behind}
use Rattle.rp_told.specs.Outcomes.{asks, first_outcome, begun, retold}
use Rattle.rp_told.proofs.Finding.{times_in, uncounted_none, found_some, found_none, find_behind, retold_same, retold_once}
use Rattle.rp_told.proofs.Turning.{turned, others_stay, turn_grows, front_and_behind, reached_by}
use Rattle.rp_told.proofs.Asks.{written, journal_is, answer_is, written_asks, asked_now, was_asked_now, quiet, no_ends}
use Rattle.rp_told.proofs.Ends.{WasOpen, tail, was_open, ends_once, told_open}

-- what a node's list of ends tells of an attempt that was granted
abbrev listed : List Ended → CmdId → Outcome
listed es id = option_map_or (λ (o : Outcome). o) (ended_of id es) outcomes.Pending

-- a node's list of ends is longer, in which the attempt stands no more often
same_by : (n now : Node) (id : CmdId) → listed now.outcomes id ≡ listed n.outcomes id → (a : EventAnswer) → outcome_by now id a ≡ outcome_by n id a
same_by n now id e answers.Done = e
same_by n now id e answers.Nothing = e
same_by n now id e answers.Admitted = e
same_by n now id e (answers.Asked ask) = e
same_by n now id e (answers.Refused why) = refl
same_by n now id e (answers.LeaseHeld lease ticks) = e
same_by n now id e (answers.Value value applied) = e

-- what is told to be pending was not refused at once
listed_by : (n now : Node) (id : CmdId) → (a : EventAnswer) → outcome_by n id a ≡ outcomes.Pending → outcome_by now id a ≡ listed now.outcomes id
listed_by n now id answers.Done e = refl
listed_by n now id answers.Nothing e = refl
listed_by n now id answers.Admitted e = refl
listed_by n now id (answers.Asked ask) e = refl
listed_by n now id (answers.Refused why) e = absurd (apart why e)
  where
    apart : (why : Refusal) → outcomes.Refused why ≡ outcomes.Pending → ⊥
    apart why e' = cc
listed_by n now id (answers.LeaseHeld lease ticks) e = refl
listed_by n now id (answers.Value value applied) e = refl

-- an attempt that has no end in a list
first_by : (n : Node) (id : CmdId) → listed n.outcomes id ≡ outcomes.Pending → (a : EventAnswer) → outcome_by n id a ≡ first_outcome a
first_by n id e answers.Done = e
first_by n id e answers.Nothing = e
first_by n id e answers.Admitted = e
first_by n id e (answers.Asked ask) = e
first_by n id e (answers.Refused why) = refl
first_by n id e (answers.LeaseHeld lease ticks) = e
first_by n id e (answers.Value value applied) = e

untold_listed : (es : List Ended) (id : CmdId) → times_in id es ≡ 0 → listed es id ≡ outcomes.Pending
untold_listed es id e = ap (λ f. option_map_or (λ (o : Outcome). o) (option_map (λ (y : Ended). y.outcome) f) outcomes.Pending) (uncounted_none (λ (y : Ended). same_id y.id id) es e)

-- ends of others do not change what is listed
listed_front : (es more : List Ended) (id : CmdId) → times_in id more ≡ 0 → listed (es ++ more) id ≡ listed es id
listed_front es more id e = go (find test es) refl where
  test : Ended → Bool
  test y = same_id y.id id

  outcome_in : Option Ended → Outcome
  outcome_in f = option_map_or (λ (o : Outcome). o) (option_map (λ (y : Ended). y.outcome) f) outcomes.Pending

  go : (f : Option Ended) → find test es ≡ f → listed (es ++ more) id ≡ listed es id
  go None found = ap outcome_in (find_behind test es more found ∙ uncounted_none test more e ∙ sym found)
  go (Some y) found = ap outcome_in (found_front test es more y found ∙ sym found)

listed_behind : (es more : List Ended) (id : CmdId) → times_in id es ≡ 0 → listed (es ++ more) id ≡ listed more id
listed_behind es more id e =
    ap (λ f. option_map_or (λ (o : Outcome). o) (option_map (λ (y : Ended). y.outcome) f) outcomes.Pending)
    (find_behind (λ (y : Ended). same_id y.id id) es more (uncounted_none (λ (y : Ended). same_id y.id id) es e))

some_outcome : (a b : Outcome) → ◌≡◌ {A = Option Outcome} (Some a) (Some b) → a ≡ b
some_outcome a b e = cc

module _ (nodes : ℕ) (w : World) (r : IsReached nodes w) (x : Scene) (n now : Node) (t : Turns w x n now) (id : CmdId) where
  abbrev later : World
  later = happens w x

  once : AskedOnce w
  once = asked_once nodes w r

  once_later : AskedOnce later
  once_later = asked_once nodes later (reached_by nodes w r x t.lawful)

  abbrev more : List Ended
  more = tail nodes w r x n now t

  outcomes_are : now.outcomes ≡ n.outcomes ++ more
  outcomes_are = front_and_behind n.outcomes now.outcomes (turn_grows w x n now t).outcomes

  -- at the node of the scene, in which the attempt was asked before
  here : asked_at id n ≡ true → asks id x.what ≡ false → outcome_of later id ≡ retold id more (outcome_of w id)
  here asked none =
      let f = found_some (is_admission_of id) n.journal asked in
      let asked_later : asked_at id now ≡ true = asked_now w x n now t id ∙ ap (λ b. b || asked_at id n) none ∙ asked in
      let was : outcome_of w id ≡ Some (outcome_by n id f.0.answer) =
      outcome_here w once id x.node n t.has asked ∙ ap (option_map (λ (e : JournalEntry). outcome_by n id e.answer)) f.1 in
      let is : outcome_of later id ≡ Some (outcome_by now id f.0.answer) =
      outcome_here later once_later id x.node now t.left asked_later
      ∙ ap (option_map (λ (e : JournalEntry). outcome_by now id e.answer)) (ap (find (is_admission_of id)) (journal_is w x n now t) ∙ found_front (is_admission_of id) n.journal _ f.0 f.1) in
      by_times (times_in id more) refl f.0.answer was is
    where
      by_times : (k : ℕ) → times_in id more ≡ k → (a : EventAnswer) → outcome_of w id ≡ Some (outcome_by n id a) → outcome_of later id ≡ Some (outcome_by now id a) → outcome_of later id ≡ retold id more (outcome_of w id)
      by_times zero e a was is =
          is ∙ ap Some (same_by n now id (ap (λ l. listed l id) outcomes_are ∙ listed_front n.outcomes more id e) a)
          ∙ sym was ∙ sym (retold_same id more (outcome_of w id) e)
      by_times (suc k) e a was is =
          let some : 0 < times_in id more = omega (arith, e) in
          let before : outcome_of w id ≡ Some outcomes.Pending = told_open nodes w r x n now t id some in
          let o : WasOpen n id (times_in id more) = was_open nodes w r x n now t id some in
          is
          ∙ ap Some (listed_by n now id a (some_outcome _ _ (sym was ∙ before)) ∙ ap (λ l. listed l id) outcomes_are ∙ listed_behind n.outcomes more id o.untold)
          ∙ sym (ap (retold id more) before ∙ retold_once id more (ends_once nodes w r x n now t id))

  -- at another node
  apart : (node : ℕ) (m : Node) → node_of w node ≡ Some m → asked_at id m ≡ true → (node ≡ x.node → ⊥) → outcome_of later id ≡ retold id more (outcome_of w id)
  apart node m has asked ne =
      outcome_here later once_later id node m (others_stay w x node ne ∙ has) asked
      ∙ sym (outcome_here w once id node m has asked)
      ∙ sym (retold_same id more (outcome_of w id) (none (times_in id more) refl))
    where
      none : (k : ℕ) → times_in id more ≡ k → times_in id more ≡ 0
      none zero e = e
      none (suc k) e =
          let o : WasOpen n id (times_in id more) = was_open nodes w r x n now t id (omega (arith, e)) in
          let a = any_place (is_admission_of id) n.journal o.asked in
          let b = any_place (is_admission_of id) m.journal asked in
          absurd (ne (sym (once id node b.0 b.1 (record { n = m; has = has; here = b.2 }) b.3 x.node a.0 a.1 (record { n = n; has = t.has; here = a.2 }) a.3).0))

  -- an attempt that was asked before
  known : was_asked w id ≡ true → asks id x.what ≡ false → outcome_of later id ≡ retold id more (outcome_of w id)
  known was none =
      let f = found_some (asked_at id) w was in
      let p = found_place (asked_at id) w f.0 f.1 in
      let asked : asked_at id f.0 ≡ true = found_passes (asked_at id) w f.0 f.1 in
      ⊎_elim
      (λ (same : suc p.0 ≡ x.node). here (subst (λ (m : Node). asked_at id m ≡ true) (one_node w x.node f.0 n (subst (λ k. node_of w k ≡ Some f.0) same p.1) t.has) asked) none)
      (λ (ne : suc p.0 ≡ x.node → ⊥). apart (suc p.0) f.0 p.1 asked ne)
      (cases_eq (suc p.0) x.node)

  -- one that was not
  unknown : was_asked w id ≡ false → asks id x.what ≡ false → outcome_of later id ≡ retold id more (outcome_of w id)
  unknown was none =
      ap (option_and_then (outcome_at id)) (found_none (asked_at id) later (was_asked_now w x n now t id ∙ ap (λ b. b || was_asked w id) none ∙ was))
      ∙ sym before
      ∙ sym (retold_same id more (outcome_of w id) (no_end (times_in id more) refl))
    where
      before : outcome_of w id ≡ None
      before = ap (option_and_then (outcome_at id)) (found_none (asked_at id) w was)

      none_some : ◌≡◌ {A = Option Outcome} None (Some outcomes.Pending) → ⊥
      none_some e = cc

      no_end : (k : ℕ) → times_in id more ≡ k → times_in id more ≡ 0
      no_end zero e = e
      no_end (suc k) e = absurd (none_some (sym before ∙ told_open nodes w r x n now t id (omega (arith, e))))

  not_asked : (b : Bool) → was_asked w id ≡ b → asks id x.what ≡ false → outcome_of later id ≡ retold id more (outcome_of w id)
  not_asked true was none = known was none
  not_asked false was none = unknown was none

  -- the attempt that asks was not asked before
  pub unasked_before : asks id x.what ≡ true → was_asked w id ≡ false
  unasked_before a = new_unasked w x
      (record {
        n = n;
        has = t.has;
        event = (turned w x n now t).event;
        came = (turned w x n now t).came;
        is = (turned w x n now t).left ∙ ap (with_node w x.node) (turned w x n now t).is;
      })
      t.lawful.lawful id (written_asks w x n now t id ∙ a)

  pub new_here : asks id x.what ≡ true → asked_at id n ≡ false
  new_here a = go (asked_at id n) refl where
    go : (b : Bool) → asked_at id n ≡ b → asked_at id n ≡ false
    go false is = is
    go true is = absurd (true_not_false (was_asked w id) (node_any (asked_at id) w x.node n t.has is) (unasked_before a))

  untold : asked_at id n ≡ false → times_in id n.outcomes ≡ 0
  untold none =
      let b = balanced nodes w r id x.node n t.has in
      let few = both_fewer (is_admission_of id) (λ (e : JournalEntry). is_granted e.answer) n.journal in
      let no = none_counted (is_admission_of id) n.journal none in
      omega (arith, b, few, no)

  -- it is told by the answer
  asking : asks id x.what ≡ true → outcome_of later id ≡ Some (first_outcome (answer_of now))
  asking a =
      let asked : asked_at id now ≡ true = asked_now w x n now t id ∙ ap (λ b. b || asked_at id n) a in
      let unasked : asked_at id n ≡ false = new_here a in
      outcome_here later once_later id x.node now t.left asked
      ∙ ap (option_map (λ (e : JournalEntry). outcome_by now id e.answer))
      (ap (find (is_admission_of id)) (journal_is w x n now t) ∙ find_behind (is_admission_of id) n.journal (written w x n now t ∷ []) (found_none (is_admission_of id) n.journal unasked)
      ∙ ap (λ b. cond b (Some (written w x n now t)) None) (written_asks w x n now t id ∙ a))
      ∙ ap Some (first_by now id (ap (λ l. listed l id) (quiet w x n now t id a) ∙ untold_listed n.outcomes id (untold unasked)) (written w x n now t).answer)
      ∙ ap (λ z. Some (first_outcome z)) (sym (answer_is w x n now t))

pub told_now : (nodes : ℕ) (w : World) → IsReached nodes w → (x : Scene) (n now : Node) → Turns w x n now → (id : CmdId)
    → outcome_of (happens w x) id ≡ retold id (behind n.outcomes now.outcomes) (begun id x.what (answer_of now) (outcome_of w id))
told_now nodes w r x n now t id = by_asks (asks id x.what) refl where
  by_asks : (b : Bool) → asks id x.what ≡ b → outcome_of (happens w x) id ≡ retold id (behind n.outcomes now.outcomes) (cond b (Some (first_outcome (answer_of now))) (outcome_of w id))
  by_asks true a = asking nodes w r x n now t id a ∙ sym (ap (λ l. retold id l (Some (first_outcome (answer_of now)))) (no_ends w x n now t id a))
  by_asks false a = not_asked nodes w r x n now t id (was_asked w id) refl a

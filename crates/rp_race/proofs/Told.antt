-- What stands in a node's list of outcomes is what the attempt was told.
use Rattle.std.proofs.Common.{◌≡◌, ℕ, zero, suc, ◌+◌, ◌<◌, ◌≤◌, Bool, true, false, cond, Option, None, Some, List, [], ◌∷◌, refl, sym, ap, subst, ◌∙◌, arith}
use Rattle.std.specs.Prelude.{slice_get, count_by, ◌&&◌}
use Rattle.std.specs.List.{find, AllByRecursion}
use Rattle.std.specs.Option.{option_map, option_map_or}
use Rattle.std.proofs.lemmas.Bool.{and_parts}
use Rattle.rp_base.specs.Ids.{same_id}
use Rattle.rp_base.specs.declared.ids.CmdId.{CmdId}
use Rattle.rp_base.proofs.Counts.{count_cons}
use Rattle.rp_base.proofs.IdLaws.{same_itself}
use Rattle.rp_request.specs.declared.outcomes.Outcome.{Outcome}
use Rattle.rp_request.specs.declared.outcomes.Outcome.TheVariants.{Pending}
use Rattle.rp_events.specs.declared.answers.Ended.{Ended}
use Rattle.rp_events.specs.declared.answers.EventAnswer.{EventAnswer}
use Rattle.rp_events.specs.declared.answers.EventAnswer.TheVariants as answers
use Rattle.rp_events.specs.declared.journals.JournalEntry.{JournalEntry}
use Rattle.rp_events.specs.Lawful.{IsReached}
use Rattle.rp_events.specs.Nodes.{Node}
use Rattle.rp_events.specs.Worlds.{World, node_of, is_admission_of, asked_at, outcome_by, outcome_at}
use Rattle.rp_journals.specs.Ended.{is_granted, is_grant_of, times_granted, times_pending, times_told, IsTrueEnd}
use Rattle.rp_journals.proofs.Asking.{any_at, asked_once, times_at_most_once}
use Rattle.rp_journals.proofs.Balancing.{balanced, granted_once}
use Rattle.rp_journals.proofs.Telling.{true_ends, count_some}
use Rattle.rp_race.proofs.Ahead.{all_at_place}
use Rattle.rp_race.proofs.Nexts.{found_entry}

-- what passes a test once is found
found_here : {X : Type 0} (b : Bool) (z x : X) (rest : Option X) (k more : ℕ) → cond b 1 0 + more ≡ k → k ≤ 1 → 0 < more → rest ≡ Some x → cond b (Some z) rest ≡ Some x
found_here true z x rest k more e few some h = absurd (omega (arith, e, few, some))
found_here false z x rest k more e few some h = h

count_at : {X : Type 0} (test : X → Bool) (xs : List X) (k : ℕ) (x : X) → slice_get xs k ≡ Some x → test x ≡ true → 0 < count_by test xs
count_at test [] k x at is = absurd cc
count_at {X} test (z ∷ xs) zero x at is =
    let same : z ≡ x = some_is z x at in
    let one : ◌≡◌ {A = ℕ} (cond (test z) 1 0) 1 = ap (λ b. cond {A = ℕ} b 1 0) (ap test same ∙ is) in
    let c : count_by test (z ∷ xs) ≡ cond (test z) 1 0 + count_by test xs = count_cons test z xs in
    omega (arith, one, c)
  where
    some_is : (a b : X) → ◌≡◌ {A = Option X} (Some a) (Some b) → a ≡ b
    some_is a b e = cc
count_at test (z ∷ xs) (suc k) x at is =
    let more = count_at test xs k x at is in
    let c : count_by test (z ∷ xs) ≡ cond (test z) 1 0 + count_by test xs = count_cons test z xs in
    omega (arith, more, c)

found_once : {X : Type 0} (test : X → Bool) (xs : List X) (k : ℕ) (x : X) → slice_get xs k ≡ Some x → test x ≡ true → count_by test xs ≤ 1 → find test xs ≡ Some x
found_once test [] k x at is few = absurd cc
found_once {X} test (z ∷ xs) zero x at is few = ap (λ b. cond b (Some z) (find test xs)) (ap test (some_is z x at) ∙ is) ∙ at where
  some_is : (a b : X) → ◌≡◌ {A = Option X} (Some a) (Some b) → a ≡ b
  some_is a b e = cc
found_once test (z ∷ xs) (suc k) x at is few =
    let more = count_at test xs k x at is in
    let c : count_by test (z ∷ xs) ≡ cond (test z) 1 0 + count_by test xs = count_cons test z xs in
    found_here (test z) z x (find test xs) (count_by test (z ∷ xs)) (count_by test xs) (sym c) few more
    (found_once test xs k x at is (omega (arith, few, c)))

granted_is : (n : Node) (id : CmdId) (a : EventAnswer) → is_granted a ≡ true → outcome_by n id a ≡ outcome_by n id answers.Admitted
granted_is n id answers.Admitted e = refl
granted_is n id answers.Done e = absurd cc
granted_is n id answers.Nothing e = absurd cc
granted_is n id (answers.Asked ask) e = absurd cc
granted_is n id (answers.Refused why) e = absurd cc
granted_is n id (answers.LeaseHeld lease ticks) e = absurd cc
granted_is n id (answers.Value value applied) e = absurd cc

-- what an outcome in the list says
pub record ToldThere (id : CmdId) (outcome : Outcome) (n : Node) : Type 0 where
  pub asked : asked_at id n ≡ true
  pub told : outcome_at id n ≡ Some outcome
  pub ended : outcome ≡ Pending → ⊥

pub told_there : (nodes : ℕ) (w : World) → IsReached nodes w → (node : ℕ) (n : Node) → node_of w node ≡ Some n → (k : ℕ) (id : CmdId) (outcome : Outcome)
    → slice_get n.outcomes k ≡ Some (record { id = id; outcome = outcome }) → ToldThere id outcome n
told_there nodes w reached node n has k id outcome here =
    let b = balanced nodes w reached id node n has in
    let few : times_granted id n ≤ 1 = granted_once w node n has id (times_at_most_once nodes w reached id) in
    let some : 0 < times_told id n = count_at (λ (e : Ended). same_id e.id id) n.outcomes k _ here (same_itself id) in
    let g = count_some (is_grant_of id) n.journal (omega (arith, b, some)) in
    let parts = and_parts (is_admission_of id g.1) (is_granted g.1.answer) g.3 in
    let entry : find (is_admission_of id) n.journal ≡ Some g.1 = found_entry w (asked_once nodes w reached) id node n has g.0 g.1 g.2 parts.0 in
    let last : find (λ (e : Ended). same_id e.id id) n.outcomes ≡ Some (record { id = id; outcome = outcome }) =
    found_once (λ (e : Ended). same_id e.id id) n.outcomes k _ here (same_itself id) (omega (arith, b, few)) in
    record {
      asked = any_at (is_admission_of id) n.journal g.0 g.1 g.2 parts.0;
      told = ap (option_map (λ (e : JournalEntry). outcome_by n id e.answer)) entry
          ∙ ap Some (granted_is n id g.1.answer parts.1)
          ∙ ap (λ o. Some (option_map_or (λ (x : Outcome). x) (option_map (λ (e : Ended). e.outcome) o) Pending)) last;
      ended = not_pending outcome (all_at_place (λ (e : Ended). IsTrueEnd w e.id e.outcome) n.outcomes k _ (true_ends nodes w reached node n has) here);
    }
  where
    not_pending : (o : Outcome) → IsTrueEnd w id o → o ≡ Pending → ⊥
    not_pending o h e = subst (IsTrueEnd w id) e h

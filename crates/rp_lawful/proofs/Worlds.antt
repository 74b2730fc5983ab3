-- What a lawful scene does to what a player's soundness speaks of.
use Rattle.std.proofs.Common.{◌≡◌, ◌⊎◌, inl, inr, ⊎_elim, ℕ, ◌+◌, ◌<◌, ◌≤◌, true, false, Option, None, Some, [], ◌∷◌, length, refl, sym, ap, subst, ◌∙◌, arith}
use Rattle.std.specs.Prelude.{nat_le}
use Rattle.std.specs.List.{sum_by}
use Rattle.std.specs.Option.{option_map_or}
use Rattle.std.proofs.lemmas.List.{length-append}
use Rattle.rp_base.specs.declared.ids.CmdId.{CmdId}
use Rattle.rp_request.specs.declared.outcomes.Outcome.{Outcome}
use Rattle.rp_request.specs.declared.outcomes.Outcome.TheVariants as outcomes
use Rattle.rp_request.specs.declared.outcomes.Refusal.{Refusal}
use Rattle.rp_events.specs.Nodes.{Node, is_full, journal_end}
use Rattle.rp_events.specs.NodeEvents.{step}
use Rattle.rp_events.specs.Worlds.{World, Scene, node_of, with_node, taken_in, happens, is_admission_of, was_asked, outcome_of}
use Rattle.rp_events.specs.Lawful.{IsReached, IsLater, is_refusal, was_refused}
use Rattle.rp_journals.specs.Growth.{WorldGrows}
use Rattle.rp_journals.proofs.Growing.{Happened, happened, reached_later, later_grows}
use Rattle.rp_journals.proofs.Reading.{entry_of, step_journal}
use Rattle.rp_journals.proofs.Writing.{EntryCases, Old, New, entry_cases}
use Rattle.rp_journals.proofs.Staying.{asked_stays, outcome_stays, entries_stay, requests_stay}
use Rattle.rp_journals.proofs.Asking.{admits, Admitting, written_asked, asked_once, sum_with, any_at}
use Rattle.rp_journals.proofs.Telling.{OutcomeFrom, outcome_from, ToldBy, told_by}
use Rattle.rp_journals.proofs.Waiting.{outcome_here}
use Rattle.rp_journals.proofs.Places.{AskedThere, asked_there}
use Rattle.rp_bound.proofs.Work.{sum_within}
use Rattle.rp_book.specs.declared.bookings.Booked.{Booked}
use Rattle.rp_lawful.specs.Sound.{IsAskedAs}

-- how many events the journals have
abbrev pub all_events : World → ℕ
all_events w = sum_by (λ (n : Node). length n.journal) w

-- a scene is one event more at most
pub events_scene : (w : World) (x : Scene) → all_events (happens w x) ≤ all_events w + 1
events_scene w x = ⊎_elim
    (λ (same : happens w x ≡ w). subst (λ z. all_events z ≤ all_events w + 1) (sym same) (omega arith))
    (λ (k : Happened w x).
    let new : Node = (step k.n k.event (taken_in x.what)).node in
    let grown : length new.journal ≡ length k.n.journal + 1 = ap length (step_journal k.n k.event (taken_in x.what)) ∙ length-append k.n.journal (entry_of k.n k.event (taken_in x.what) ∷ []) in
    let all : all_events (with_node w x.node new) + length k.n.journal ≡ all_events w + length new.journal = sum_with (λ (n : Node). length n.journal) w x.node k.n new k.has in
    subst (λ z. all_events z ≤ all_events w + 1) (sym k.is) (omega (arith, grown, all)))
    (happened w x)

not_le : (n bound : ℕ) → n < bound → nat_le bound n ≡ false
not_le n bound h = grind arith

-- a journal of few events is not full
pub not_full : (w : World) (node : ℕ) (n : Node) → node_of w node ≡ Some n → all_events w ≤ 4194304 → is_full n ≡ false
not_full w node n has few =
    let here : length n.journal ≤ all_events w = sum_within (λ (m : Node). length m.journal) w node n has in
    not_le (length n.journal) journal_end (omega (arith, here, few))

-- what was asked behind a scene was asked before, or is asked in it
pub asked_scene : (w : World) (x : Scene) (id : CmdId) → was_asked (happens w x) id ≡ true → (was_asked w id ≡ true) ⊎ Admitting id x.what
asked_scene w x id e = ⊎_elim
    (λ (same : happens w x ≡ w). inl (subst (λ z. was_asked z id ≡ true) same e))
    (λ (k : Happened w x). let a = asked_there (happens w x) id e in by_cases k a (entry_cases w x k a.node a.place a.e a.is))
    (happened w x)
  where
    by_cases : (k : Happened w x) (a : AskedThere (happens w x) id) → EntryCases w x k a.node a.place a.e → (was_asked w id ≡ true) ⊎ Admitting id x.what
    by_cases k a (Old was) = inl (written_asked w id a.node a.place a.e was a.asks)
    by_cases k a (New at here is) = inr (admits w k.n (taken_in x.what) id x.what k.event k.came (subst (λ z. is_admission_of id z ≡ true) is a.asks))

-- what was asked stays asked
pub was_asked_stays : (w later : World) → WorldGrows w later → (id : CmdId) → was_asked w id ≡ true → was_asked later id ≡ true
was_asked_stays w later g id e =
    let a = asked_there w id e in
    let x = g.each a.node a.is.n a.is.has in
    written_asked later id a.node a.place a.e (record { n = x.now; has = x.has; here = entries_stay a.is.n x.now x.grows a.place a.e a.is.here }) a.asks

pub asked_as_stays : (w later : World) → WorldGrows w later → (id : CmdId) (b : Booked) → IsAskedAs w id b → IsAskedAs later id b
asked_as_stays w later g id b a =
    let x = g.each b.node a.n a.has in
    record {
      n = x.now;
      has = x.has;
      place = a.place;
      at = a.at;
      answer = a.answer;
      here = entries_stay a.n x.now x.grows a.place _ a.here;
      asked = requests_stay a.n x.now x.grows a.at b.request a.asked;
    }

-- an attempt that was refused stays so
module _ (nodes : ℕ) (w later : World) (reached : IsReached nodes w) (l : IsLater w later) (id : CmdId) where
  refused_still : (why : Refusal) → outcome_of w id ≡ Some (outcomes.Refused why) → outcome_of later id ≡ Some (outcomes.Refused why)
  refused_still why e =
      let f : OutcomeFrom w id (outcomes.Refused why) = outcome_from w id (outcomes.Refused why) e in
      let t : ToldBy w id f.node f.n (outcomes.Refused why) = told_by w id f.node f.n (outcomes.Refused why) f.at in
      let x = (later_grows w later l).each f.node f.n f.has in
      outcome_here later (asked_once nodes later (reached_later nodes w later reached l)) id f.node x.now x.has
      (asked_stays f.n x.now x.grows id (any_at (is_admission_of id) f.n.journal t.place t.e t.here t.asks))
      ∙ outcome_stays f.n x.now x.grows id (outcomes.Refused why) (λ (same : outcomes.Refused why ≡ outcomes.Pending). absurd cc) f.at

  pub refused_stays : was_refused w id ≡ true → was_refused later id ≡ true
  refused_stays e = go (outcome_of w id) refl e where
    by : (o : Outcome) → outcome_of w id ≡ Some o → is_refusal o ≡ true → was_refused later id ≡ true
    by (outcomes.Success reply) is e' = absurd cc
    by (outcomes.Refused why) is e' = ap (λ o. option_map_or is_refusal o false) (refused_still why is)
    by (outcomes.Ambiguous why) is e' = absurd cc
    by outcomes.Pending is e' = absurd cc

    go : (o : Option Outcome) → outcome_of w id ≡ o → option_map_or is_refusal o false ≡ true → was_refused later id ≡ true
    go None is e' = absurd cc
    go (Some o) is e' = by o is e'

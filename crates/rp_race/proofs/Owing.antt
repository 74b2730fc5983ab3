-- What rounds are owed stays heard, and a new round has heard it.
use Rattle.std.proofs.Common.{◌≡◌, ℕ, ◌+◌, ◌-◌, ◌≤◌, ◌<◌, Bool, true, false, ◌⊎◌, inl, inr, ⊎_elim, Option, None, Some, List, [], ◌∷◌, ◌++◌, length, take, refl, sym, ap, subst, ◌∙◌, arith}
use Rattle.std.specs.Prelude.{slice_get, ◌==◌}
use Rattle.std.specs.List.{list_any}
use Rattle.std.proofs.lemmas.Bool.{cases_eq}
use Rattle.std.proofs.lemmas.Option.{slice_get_within}
use Rattle.rp_request.specs.Applied.{AppliedState}
use Rattle.rp_events.specs.declared.journals.JournalEntry.{JournalEntry}
use Rattle.rp_events.specs.declared.journals.PastEvent.{PastEvent}
use Rattle.rp_events.specs.declared.journals.PastEvent.TheVariants as past
use Rattle.rp_events.specs.declared.parcels.Parcel.{Parcel}
use Rattle.rp_events.specs.Lawful.{IsReached}
use Rattle.rp_events.specs.Lists.{IsWritten}
use Rattle.rp_events.specs.Nodes.{Node, parcel_of}
use Rattle.rp_events.specs.Worlds.{World, Scene, node_of, taken_in, happens, first_world}
use Rattle.rp_journals.specs.Growth.{Begins, Grows}
use Rattle.rp_journals.proofs.Growing.{Happened, happened, scene_grows, one_node, later_grows}
use Rattle.rp_journals.proofs.Lists.{take_begins, take_whole}
use Rattle.rp_journals.proofs.Reading.{entry_of}
use Rattle.rp_journals.proofs.Writing.{EntryCases, Old, New, entry_cases, none_written}
use Rattle.rp_workers.specs.Losses.{is_lost}
use Rattle.rp_race.specs.declared.rules.RaceRules.{RaceRules}
use Rattle.rp_race.specs.Owed.{heard_from, carried, is_round, rounds_in, IsRoundAt, was_delivered, HasHeard, RoundsOwed}
use Rattle.rp_race.specs.Gives.{kept_as, WasSeen}
use Rattle.rp_race.proofs.Ahead.{parcel_back, kept_is, WasThere, was_there}
use Rattle.rp_race.proofs.Counted.{Counted, all_counted, round_grows, round_back, kept_few, RoundThere, find_round}
use Rattle.rp_race.proofs.Hearing.{carried_has, heard_delivered}

-- what was heard is heard when both nodes have gone on
pub heard_later : (rules : RaceRules) (node from : ℕ) (n later m further : Node) (round place : ℕ) → Grows n later → Grows m further → Counted m → place ≤ length n.journal
    → HasHeard rules node from n m round place → HasHeard rules node from later further round place
heard_later rules node from n later m further round place g k c within h = record {
  at = h.at;
  sent = h.sent;
  ended = round_grows m.journal further.journal k.journal (round - 3) h.at h.sent h.ended;
  each = λ number p few there for.
      let few_enough = kept_few m c (round - 3) h.at h.sent h.ended in
      let was : parcel_of m.sent number ≡ Some p = parcel_back m.sent further.sent k.sent number p (omega (arith, few, few_enough)) there in
      let same : take place later.journal ≡ take place n.journal = take_begins place n.journal later.journal g.journal within in
      subst (λ l. (is_lost rules.loss rules.salt from number ≡ true) ⊎ (was_delivered from number l ≡ true)) (sym same) (h.each number p few was for);
}

-- the last round of a node has heard what it is owed by another one as it was seen
pub heard_now : (rules : RaceRules) (nodes : ℕ) (w : World) (node from : ℕ) (n seen m : Node) → WasSeen nodes w from seen → node_of w from ≡ Some m
    → heard_from from n.journal ≡ carried rules from node seen.sent → n.rounds ≤ seen.rounds + 2 → 4 ≤ n.rounds + 1
    → HasHeard rules node from n m (n.rounds + 1) (length n.journal)
heard_now rules nodes w node from n seen m was has heard behind enough =
    let c : Counted seen = all_counted nodes was.before was.reached from seen was.has in
    let counts = c.rounds in
    let r : RoundThere seen.journal (n.rounds + 1 - 3) = find_round seen.journal (n.rounds + 1 - 3) (omega (arith, enough)) (omega (arith, behind, counts, enough)) in
    let l = (later_grows was.before w was.later).each from seen was.has in
    let g : Grows seen m = subst (Grows seen) (one_node w from l.now m l.has has) l.grows in
    let few_enough : r.sent ≤ length seen.sent = kept_few seen c (n.rounds + 1 - 3) r.place r.sent r.at in
    record {
      at = r.place;
      sent = r.sent;
      ended = round_grows seen.journal m.journal g.journal (n.rounds + 1 - 3) r.place r.sent r.at;
      each = λ number p few there for.
          let there_then : parcel_of seen.sent number ≡ Some p = parcel_back seen.sent m.sent g.sent number p (omega (arith, few, few_enough)) there in
          subst (λ l. (is_lost rules.loss rules.salt from number ≡ true) ⊎ (was_delivered from number l ≡ true)) (sym (take_whole n.journal))
          (by_loss number p there_then for (is_lost rules.loss rules.salt from number) refl);
    }
  where
    by_loss : (number : ℕ) (p : Parcel AppliedState) → parcel_of seen.sent number ≡ Some p → p.to ≡ node → (b : Bool) → is_lost rules.loss rules.salt from number ≡ b
        → (is_lost rules.loss rules.salt from number ≡ true) ⊎ (was_delivered from number n.journal ≡ true)
    by_loss number p there for true lost = inl lost
    by_loss number p there for false kept =
        inr (heard_delivered from number n.journal (subst (λ l. list_any (λ z. z == number) l ≡ true) (sym heard) (carried_has rules from node seen.sent number p there for kept)))

-- what each other node has sent for a round that ends now
abbrev pub OwedNow : RaceRules → World → (node : ℕ) → Node → Type 0
OwedNow rules w node n = (from : ℕ) (m : Node) → node_of w from ≡ Some m → (from ≡ node → ⊥) → 4 ≤ n.rounds + 1
    → HasHeard rules node from n m (n.rounds + 1) (length n.journal)

true_false : (b : Bool) → b ≡ true → b ≡ false → ⊥
true_false b t f = let e = sym t ∙ f in absurd cc

-- along a scene
pub owed_scene : (rules : RaceRules) (nodes : ℕ) (w : World) (x : Scene) → IsReached nodes w → (n : Node) → node_of w x.node ≡ Some n
    → (is_round (kept_as n x.what) ≡ false) ⊎ OwedNow rules w x.node n → RoundsOwed rules w → RoundsOwed rules (happens w x)
owed_scene rules nodes w x reached n has new h = ⊎_elim
    (λ (same : happens w x ≡ w). subst (RoundsOwed rules) (sym same) h)
    (λ (k : Happened w x). λ node from now m is there ne round place sent enough r.
    by_cases k node from now m is there ne round place sent enough r
    (entry_cases w x k node place _ (record { n = now; has = is; here = r.here })))
    (happened w x)
  where
    by_cases : (k : Happened w x) (node from : ℕ) (now m : Node) → node_of (happens w x) node ≡ Some now → node_of (happens w x) from ≡ Some m → (from ≡ node → ⊥) → (round place sent : ℕ) → 4 ≤ round
        → (r : IsRoundAt now.journal round place sent) → EntryCases w x k node place (record { event = past.Round sent; answer = r.answer }) → HasHeard rules node from now m round place
    by_cases k node from now m is there ne round place sent enough r (Old was) =
        let within : place < length was.n.journal = slice_get_within was.n.journal place _ was.here in
        let a : WasThere w x node now = was_there w x node now is in
        let b : WasThere w x from m = was_there w x from m there in
        let same : a.n ≡ was.n = one_node w node a.n was.n a.has was.has in
        let g : Grows was.n now = subst (λ z. Grows z now) same a.grows in
        heard_later rules node from was.n now b.n m round place g b.grows (all_counted nodes w reached from b.n b.has) (omega (arith, within))
        (h node from was.n b.n was.has b.has ne round place sent enough (round_back was.n.journal now.journal g.journal round place sent within r))
    by_cases k node from now m is there ne round place sent enough r (New at here entry) = ⊎_elim
        (λ (no : is_round (kept_as n x.what) ≡ false). absurd (true_false (is_round (kept_as n x.what)) (sym (ap is_round kept)) no))
        (λ (owed : OwedNow rules w x.node n). subst (λ z. HasHeard rules z from now m round place) (sym at) (by_round owed))
        new
      where
        n_is : k.n ≡ n
        n_is = one_node w x.node k.n n k.has has

        kept : past.Round sent ≡ kept_as n x.what
        kept = ap (λ (z : JournalEntry). z.event) entry ∙ kept_is w k.n x.what k.event k.came ∙ ap (λ z. kept_as z x.what) n_is

        by_round : OwedNow rules w x.node n → HasHeard rules x.node from now m round place
        by_round owed =
            let a : WasThere w x x.node now = was_there w x x.node now (subst (λ z. node_of (happens w x) z ≡ Some now) at is) in
            let g : Grows n now = subst (λ z. Grows z now) (one_node w x.node a.n n a.has has) a.grows in
            let b : WasThere w x from m = was_there w x from m there in
            let c : Counted n = all_counted nodes w reached x.node n has in
            let counts = c.rounds in
            let place_is : place ≡ length n.journal = here ∙ ap (λ (z : Node). length z.journal) n_is in
            let before : rounds_in (take place now.journal) ≡ rounds_in n.journal =
            ap (λ z. rounds_in (take z now.journal)) place_is ∙ ap rounds_in (take_begins (length n.journal) n.journal now.journal g.journal (omega arith) ∙ take_whole n.journal) in
            let number = r.number in
            let round_is : n.rounds + 1 ≡ round = omega (arith, number, before, counts) in
            subst (λ z. HasHeard rules x.node from now m z place) round_is
            (subst (HasHeard rules x.node from now m (n.rounds + 1)) (sym place_is)
            (heard_later rules x.node from n now b.n m (n.rounds + 1) (length n.journal) g b.grows (all_counted nodes w reached from b.n b.has) (omega arith)
            (owed from b.n b.has (λ e. ne (e ∙ sym at)) (omega (arith, enough, round_is)))))

pub owed_first : (rules : RaceRules) (nodes : ℕ) → RoundsOwed rules (first_world nodes)
owed_first rules nodes node from n m has there ne round place sent enough r =
    absurd (none_written nodes node place _ (record { n = n; has = has; here = r.here }))

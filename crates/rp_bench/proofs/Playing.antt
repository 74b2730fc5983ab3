-- A round of a node.
use Rattle.std.proofs.Common.{◌≡◌, ◌≢◌, ℕ, zero, suc, ◌+◌, ◌-◌, ◌<◌, ◌≤◌, ⊎_elim, Bool, true, false, not, List, [], ◌∷◌, ◌++◌, length, refl, sym, ap, subst, ◌∙◌, arith, slice_get, slice_set, Option, Some, None, Result, Ok, Err, OnOk, OnErr}
use Rattle.std.proofs.lemmas.Bool.{cases_eq}
use Rattle.std.proofs.lemmas.List.{length-set}
use Rattle.rp_journals.specs.Growth.{Begins, Grows, HasLater}
use Rattle.rp_journals.specs.Asked.{all_at}
use Rattle.rp_journals.proofs.Growing.{later_refl, run_grows, one_node, some_node}
use Rattle.rp_journals.proofs.Lists.{set_other, begins_refl}
use Rattle.rp_journals.proofs.Reading.{step_journal, entry_of}
use Rattle.rp_events.specs.declared.node_events.Event.TheVariants as events
use Rattle.rp_events.specs.Lawful.{IsReached}
use Rattle.rp_events.specs.Nodes.{Node}
use Rattle.rp_events.specs.Worlds.{World, Happening, node_of, run}
use Rattle.rp_race.specs.declared.rules.RaceRules.{RaceRules}
use Rattle.rp_race.specs.Gives.{AllSeen, WasSeen, OnlyAdmitted, IsPart, NoneBehind, after_round}
use Rattle.rp_race.specs.Rounds.{between, stage_of}
use Rattle.rp_race.proofs.Ordered.{stage_push}
use Rattle.rp_switch.specs.declared.switch.Taken.{Taken}
use Rattle.rp_switch.specs.declared.terms.Terms.{Terms}
use Rattle.rp_switch.specs.Gifts.{IsRound, IsBrokenRound, IsGift, whole, broken_off, MayGive, is_between, is_broken_off}
use Rattle.rp_switch.specs.Plays.{giving}
use Rattle.rp_switch.specs.Rules.{IsNow}
use Rattle.rp_switch.specs.Views.{Rounds, HasNode, Look, Knowledge, right_at, is_rounds, taking}
use Rattle.rp_switch.proofs.Backing.{took_it, may_give}
use Rattle.rp_serving.specs.declared.faults.BrokenOff.{BrokenOff}
use Rattle.rp_serving.specs.declared.mails.Mail.{Mail}
use Rattle.rp_serving.specs.declared.lanes.Lane.{Lane}
use Rattle.rp_serving.specs.Mails.{lane_in, IsMailOf, IsWhole, IsUpToDate}
use Rattle.rp_serving.specs.Playing.{HasIt, IsTaken, world_of, taken_from}
use Rattle.rp_bench.specs.declared.stations.Station.{Station}
use Rattle.rp_bench.specs.Stations.{AreSeen, Serves, AllServe, IsAtWork, Changes, OthersStay, Notes, PlaysBy, MayPlay, may_play_on}
use Rattle.rp_bench.specs.Visits.{TakesAtLast}
use Rattle.rp_bench.proofs.Onward.{rounds_is}
use Rattle.rp_bench.proofs.Visited.{Visit, world_at, now_at, known_at, could_visit, seen_here, seen_there, has_node, saw_before, only_admitted, rounds_stay}
use Rattle.rp_bench.proofs.Kept.{between_is, numbered, mail_on, serves_other}
use Rattle.rp_bench.proofs.Working.{node_at, some_station, but_on, but_visited, seen_on, seen_noted, still_idle, still_long}

-- behind the end of a round the node is between two
pub ends_between : (n : Node) → stage_of (after_round n).journal ≡ between
ends_between n = ap stage_of (step_journal n events.Round []) ∙ stage_push n.journal (entry_of n events.Round [])

part_grows : (rules : RaceRules) (node : ℕ) (at seen : World) (what : List Happening) (n later : Node) → node_of at node ≡ Some n → IsPart rules node at seen what later → Begins n.sent later.sent
part_grows rules node at seen what n later has part =
    let l : HasLater (run at (all_at node what)) node n = (run_grows (all_at node what) at).each node n has in
    subst (λ (z : Node). Begins n.sent z.sent) (one_node (run at (all_at node what)) node l.now later l.has part.leaves) l.grows.sent

end_sends : (n : Node) → (after_round n).sent ≡ n.sent
end_sends n = refl

-- what the node had sent stays
pub round_grows : (k : Knowledge) (node : ℕ) (n after : Node) (played : Result (Unit {0}) BrokenOff) → 1 ≤ node → node_of (taken_from k) node ≡ Some n
    → OnOk played (IsRound k (node - 1) (taken_from k) after) → OnErr played (IsBrokenRound k (node - 1) (taken_from k) after) → Begins n.sent after.sent
round_grows k node n after (Ok done) some has round off =
    let is : suc (node - 1) ≡ node = omega (arith, some) in
    let has' : node_of (taken_from k) (suc (node - 1)) ≡ Some n = ap (node_of (taken_from k)) is ∙ has in
    subst (λ (z : Node). Begins n.sent z.sent) (sym round.leaves)
    (subst (Begins n.sent) (sym (end_sends round.inside)) (part_grows k.terms.rules (suc (node - 1)) (taken_from k) k.seen round.what n round.inside has' round.part))
round_grows k node n after (Err why) some has round off =
    let is : suc (node - 1) ≡ node = omega (arith, some) in
    part_grows k.terms.rules (suc (node - 1)) (taken_from k) k.seen off.what n after (ap (node_of (taken_from k)) is ∙ has) off.part

gift_of : (k : Knowledge) (place : ℕ) (n after : Node) (played : Result (Unit {0}) BrokenOff)
    → OnOk played (IsRound k place (taken_from k) after) → OnErr played (IsBrokenRound k place (taken_from k) after) → IsGift k place (taken_from k) n after
gift_of k place n after (Ok done) round off = whole round
gift_of k place n after (Err why) round off = broken_off off

-- one more node is seen as it is now
sees : (v : Knowledge) (node : ℕ) (at : World) (n : Node) → 1 ≤ node → node ≤ v.terms.nodes → IsNow v at → node_of at node ≡ Some n → AllSeen v.terms.nodes (slice_set v.seen (node - 1) n) at
sees v node at n some low now has = record {
  size = length-set v.seen (node - 1) n ∙ now.past.size;
  each = each;
}
  where
    own : WasSeen v.terms.nodes at node n
    own = record { before = at; reached = now.reached; later = later_refl at; has = has }

    each : (k : ℕ) (m : Node) → node_of (slice_set v.seen (node - 1) n) k ≡ Some m → WasSeen v.terms.nodes at k m
    each zero m e = absurd cc
    each (suc q) m e = ⊎_elim
        (λ (is : q ≡ node - 1).
        let same : suc q ≡ node = omega (arith, is, some) in
        let m_is : n ≡ m = some_node n m (sym (took_it v node at n some low now) ∙ ap (slice_get (slice_set v.seen (node - 1) n)) (sym is) ∙ e) in
        subst (λ (z : ℕ). WasSeen v.terms.nodes at z m) (sym same) (subst (λ (y : Node). WasSeen v.terms.nodes at node y) m_is own))
        (λ (away : q ≡ node - 1 → ⊥). now.past.each (suc q) m (sym (set_other v.seen (node - 1) q n away) ∙ e))
        (cases_eq q (node - 1))

-- what others had sent is seen as before
else_seen : (v : Knowledge) (node : ℕ) (n : Node) → 1 ≤ node → (from : ℕ) (m : Node) → node_of (slice_set v.seen (node - 1) n) from ≡ Some m → from ≢ node → node_of v.seen from ≡ Some m
else_seen v node n some zero m saw apart = absurd cc
else_seen v node n some (suc q) m saw apart = sym (set_other v.seen (node - 1) q n (λ e. apart (omega (arith, e, some)))) ∙ saw

module _ {E : Type 0} (v w : Knowledge) (node : ℕ) (t : Taken E) (stations : List Station) (some : 1 ≤ node) (low : node ≤ v.terms.nodes) (taken : TakesAtLast v node t w)
    (work : IsAtWork v stations) (may : MayPlay v stations node) where
  abbrev at : World
  at = world_at v w node t taken

  abbrev here : Knowledge
  here = taking (node - 1) at t.node.node (record v { looks = taken.knew.looks })

  abbrev back : Knowledge
  back = giving (t.number - 1) t.node.node t.node.node w

  visit : Visit v node at t.node.node t.node.node back
  visit = could_visit v w node t some low taken

  last : (n : Node) × (slice_get v.seen (node - 1) ≡ Some n)
  last = saw_before v back node at t.node.node t.node.node visit

  serves : Serves v (node - 1) last.0 may.station.mail
  serves = work.serve (node - 1) last.0 may.station last.1 may.here may.may_play

  pub right : right_at v.rights (node - 1) ≡ Rounds
  right = rounds_is (right_at v.rights (node - 1)) serves.carries

  only : OnlyAdmitted last.0 t.node.node
  only = only_admitted v back node at t.node.node t.node.node visit last.0 last.1 right

  has : node_of at node ≡ Some t.node.node
  has = has_node v back node at t.node.node t.node.node visit

  number : suc (node - 1) ≡ node
  number = omega (arith, some)

  has_it_here : HasIt here node
  has_it_here =
      let now = now_at v w node t taken in
      record {
        stage = refl;
        reached = now.reached;
        past = sees v node at t.node.node some low now has;
        carries = right;
      }

  pub has_it : HasIt w node
  has_it = subst (λ (k : Knowledge). HasIt k node) (sym (known_at v w node t taken)) has_it_here

  pub taken_is : taken_from w ≡ at
  taken_is = ap taken_from (known_at v w node t taken)

  pub is_taken : IsTaken w node t.node.node
  is_taken = record {
    has = ap (λ z. node_of z node) taken_is ∙ has;
    begins = only.stage (between_is (stage_of last.0.journal) serves.begins);
  }

  seen_is : w.seen ≡ slice_set v.seen (node - 1) t.node.node
  seen_is = ap (λ (k : Knowledge). k.seen) (known_at v w node t taken)

  terms_is : w.terms ≡ v.terms
  terms_is = ap (λ (k : Knowledge). k.terms) (known_at v w node t taken)

  seen_else : (from : ℕ) (m : Node) → node_of w.seen from ≡ Some m → from ≢ node → node_of v.seen from ≡ Some m
  seen_else from m saw apart = else_seen v node t.node.node some from m (ap (λ z. node_of z from) (sym seen_is) ∙ saw) apart

  pub mail_now : (rules : RaceRules) → rules ≡ v.terms.rules → (s : Station) → slice_get stations (node - 1) ≡ Some s → IsMailOf rules node w.seen t.node.node s.mail
  mail_now rules rules_are s is =
      subst (λ (r : RaceRules). IsMailOf r node w.seen t.node.node s.mail) (sym rules_are)
      (subst (λ (z : Station). IsMailOf v.terms.rules node w.seen t.node.node z.mail) (some_station may.station s (sym may.here ∙ is))
      (mail_on v.terms.rules node v.seen w.seen last.0 t.node.node may.station.mail (λ from x saw apart. (x, seen_else from x saw apart, begins_refl x.sent)) only.heard only.handed
      (subst (λ k. IsMailOf v.terms.rules k v.seen last.0 may.station.mail) number serves.mail)))

  pub whole_now : (s : Station) → slice_get stations (node - 1) ≡ Some s → IsWhole node w.seen s.mail
  whole_now s is = λ from m lane saw apart lies.
      may.whole from m lane (seen_else from m saw apart) apart (ap (λ (z : Station). lane_in z.mail from) (some_station may.station s (sym may.here ∙ is)) ∙ lies)

  pub behind_now : NoneBehind node w.seen t.node.node
  behind_now from m saw apart =
      let b = may.behind last.0 (node_at v.seen node some last.0 last.1) from m (seen_else from m saw apart) apart in
      let r = only.rounds in
      omega (arith, b, r)

  pub may_give_round : (after : Node) (played : Result (Unit {0}) BrokenOff) → OnOk played (IsRound w (node - 1) (taken_from w) after)
      → OnErr played (IsBrokenRound w (node - 1) (taken_from w) after) → MayGive w w.stage t.number after
  may_give_round after played round off =
      may_give taken.knew w node t after some (subst (λ (k : ℕ). node ≤ k) (sym (ap (λ (u : Knowledge). u.terms.nodes) taken.quiet)) low) taken.takes
      (subst (λ (z : World). IsGift w (node - 1) z t.node.node after) taken_is (gift_of w (node - 1) t.node.node after played round off))

  -- the node as it is given
  module _ (after : Node) (left : Knowledge) (s : Visit v node at t.node.node after left) (played : Result (Unit {0}) BrokenOff) (round : OnOk played (IsRound w (node - 1) (taken_from w) after))
      (off : OnErr played (IsBrokenRound w (node - 1) (taken_from w) after)) (one two new : List Station)
      (c1 : Changes (node - 1) (PlaysBy v.terms.rules node w.seen after played) stations one) (o1 : OthersStay (node - 1) stations one)
      (c2 : Changes (node - 1) (Notes after) one two) (o2 : OthersStay (node - 1) one two)
      (c3 : Changes (node - 1) (λ x y. y ≡ record x { may_play = may_play_on played x.may_play }) two new) (o3 : OthersStay (node - 1) two new) where
    grows : Begins t.node.node.sent after.sent
    grows = round_grows w node t.node.node after played some (is_taken.has) round off

    by_played : (p : Result (Unit {0}) BrokenOff) (b : Bool) (mail : Mail) → may_play_on p b ≡ true → OnOk p (IsRound w (node - 1) (taken_from w) after) → OnOk p (IsMailOf v.terms.rules node w.seen after mail)
        → Serves left (node - 1) after mail
    by_played (Ok done) b mail may_on r m =
        let stage : stage_of after.journal ≡ between = ap (λ (z : Node). stage_of z.journal) r.leaves ∙ ends_between r.inside in
        record {
          carries = rounds_stay v left node at t.node.node after s (node - 1) right (λ _. ap (λ st. not (is_between st)) stage);
          begins = ap is_between stage;
          mail = subst (λ (z : Terms). IsMailOf z.rules (suc (node - 1)) left.seen after mail) (sym s.terms)
              (subst (λ k. IsMailOf v.terms.rules k left.seen after mail) (sym number)
              (mail_on v.terms.rules node w.seen left.seen after after mail (λ from x saw apart. (x, still from x saw apart, begins_refl x.sent)) (λ _. refl) refl m));
        }
      where
        still : (from : ℕ) (x : Node) → node_of left.seen from ≡ Some x → from ≢ node → node_of w.seen from ≡ Some x
        still zero x saw apart = absurd cc
        still (suc q) x saw apart =
            let away : q ≢ node - 1 = λ e. apart (omega (arith, e, some)) in
            ap (λ l. slice_get l q) seen_is ∙ set_other v.seen (node - 1) q t.node.node away ∙ sym (seen_there v left node at t.node.node after s q away) ∙ saw
    by_played (Err why) b mail may_on r m = absurd cc

    all_serve : AllServe left new
    all_serve place n x saw lies may_on = ⊎_elim
        (λ (same : place ≡ node - 1).
        let n_is : after ≡ n = some_node after n (sym (seen_here v left node at t.node.node after s) ∙ ap (slice_get left.seen) (sym same) ∙ saw) in
        let x_is : c3.1 ≡ x = some_station c3.1 x (sym c3.3 ∙ ap (slice_get new) (sym same) ∙ lies) in
        let y_is : c3.0 ≡ c2.1 = some_station c3.0 c2.1 (sym c3.2 ∙ c2.3) in
        let z_is : c2.0 ≡ c1.1 = some_station c2.0 c1.1 (sym c2.2 ∙ c1.3) in
        let how : PlaysBy v.terms.rules node w.seen after played c1.0 c1.1 = c1.4 in
        let on : may_play_on played c3.0.may_play ≡ true = sym (ap (λ (z : Station). z.may_play) c3.4) ∙ ap (λ (z : Station). z.may_play) x_is ∙ may_on in
        let mail_is : c1.1.mail ≡ x.mail =
        sym (ap (λ (z : Station). z.mail) z_is) ∙ sym (ap (λ (z : Station). z.mail) c2.4) ∙ sym (ap (λ (z : Station). z.mail) y_is) ∙ sym (ap (λ (z : Station). z.mail) c3.4)
        ∙ ap (λ (z : Station). z.mail) x_is in
        subst (λ k. Serves left k n x.mail) (sym same)
        (subst (λ (z : Node). Serves left (node - 1) z x.mail) n_is
        (subst (λ (z : Mail). Serves left (node - 1) after z) mail_is (by_played played c3.0.may_play c1.1.mail on round how.1))))
        (λ (away : place ≡ node - 1 → ⊥).
        serves_other v left node at t.node.node after s grows place n x.mail away
        (work.serve place n x (sym (seen_there v left node at t.node.node after s place away) ∙ saw) (sym (o3 place away ∙ o2 place away ∙ o1 place away) ∙ lies) may_on))
        (cases_eq place (node - 1))

    pub at_work_played : IsAtWork left new
    at_work_played = record {
      idle = still_idle v left node at t.node.node after s;
      size = still_long v left node at t.node.node after s work.size;
      seen = seen_on left.seen (node - 1) (λ x y. y ≡ record x { may_play = may_play_on played x.may_play }) two new c3 o3
          (λ x y is. (ap (λ (z : Station). z.rounds) is, ap (λ (z : Station). z.waited) is))
          (seen_noted (node - 1) left.seen after one two
          (but_on (node - 1) left.seen (node - 1) (PlaysBy v.terms.rules node w.seen after played) stations one c1 o1
          (λ x y is. (ap (λ (z : Station). z.rounds) is.0, ap (λ (z : Station). z.waited) is.0))
          (but_visited v left node at t.node.node after s stations work.seen))
          (seen_here v left node at t.node.node after s) c2 o2);
      serve = all_serve;
    }

-- What a worker's seat has seen shows when a round may be played, and when no more is to be waited for.
use Rattle.std.proofs.Common.{◌≡◌, ◌≢◌, ℕ, zero, suc, ◌+◌, ◌-◌, ◌<◌, ◌≤◌, true, List, [], ◌∷◌, length, refl, sym, ap, subst, ◌∙◌, arith, Option, Some, slice_get, slice_index_or}
use Rattle.std.proofs.lemmas.Option.{slice_get_within}
use mathlib.Core.Logic.{dite}
use native.Mathlib.Decide.{ℕ_discrete}
use Rattle.rp_events.specs.Nodes.{Node}
use Rattle.rp_events.specs.Worlds.{World, node_of}
use Rattle.rp_race.specs.Ends.{IsWaitedOutForGood}
use Rattle.rp_race.specs.Gives.{NoneBehind}
use Rattle.rp_serving.specs.Mails.{IsWhole}
use Rattle.rp_switch.specs.Views.{Knowledge}
use Rattle.rp_bench.specs.declared.stations.Station.{Station}
use Rattle.rp_bench.specs.Dues.{IsPulled}
use Rattle.rp_bench.specs.Patience.{AllHad, SomeWaited}
use Rattle.rp_bench.specs.Stations.{AreSeen, IsAtWork, IsDue, MayPlay}
use Rattle.rp_bench.proofs.Changing.{got}

some_station : (a b : Station) → ◌≡◌ {A = Option Station} (Some a) (Some b) → a ≡ b
some_station a b e = cc

below : (w : World) (from : ℕ) (m : Node) → node_of w from ≡ Some m → from < length w + 1
below w zero m e = omega arith
below w (suc place) m e = let low = slice_get_within w place m e in omega (arith, low)

-- one more has had so many rounds
pub had_next : (stations : List Station) (k rounds : ℕ) (d : Station) → k < length stations → AllHad stations k rounds
    → rounds ≤ (slice_index_or stations k d).rounds → AllHad stations (k + 1) rounds
had_next stations k rounds d low had more place under = dite (ℕ_discrete place k)
    (λ e. subst (λ (q : ℕ). (s : Station) × (slice_get stations q ≡ Some s) × (rounds ≤ s.rounds)) (sym e) (slice_index_or stations k d, got stations k d low, more))
    (λ away. had place (omega (arith, under, away)))

-- what is due may be played
pub due_may : (v : Knowledge) (stations : List Station) (node nodes : ℕ) → IsAtWork v stations → nodes ≡ v.terms.nodes
    → IsPulled v.seen stations node (nodes + 1) → (t : Station) → slice_get stations (node - 1) ≡ Some t → IsDue nodes t → MayPlay v stations node
due_may v stations node nodes work same pulled t here due = record {
  station = t;
  here = here;
  may_play = due.may_play;
  whole = whole;
  behind = behind node here whole;
}
  where
    size : length v.seen ≡ nodes
    size = work.size ∙ sym same

    whole : IsWhole node v.seen t.mail
    whole = λ from m lane has apart at_lane.
        pulled from m t lane (let low = below v.seen from m has in omega (arith, low, size)) apart has here due.may_play at_lane

    behind : (k : ℕ) → slice_get stations (k - 1) ≡ Some t → IsWhole k v.seen t.mail → (n : Node) → node_of v.seen k ≡ Some n → NoneBehind k v.seen n
    behind zero at all n saw = absurd cc
    behind (suc place) at all n saw =
        let one : suc place - 1 ≡ place = omega arith in
        let there_is : slice_get stations place ≡ Some t = subst (λ (k : ℕ). slice_get stations k ≡ Some t) one at in
        let number : t.mail.node ≡ suc place = (work.serve place n t saw there_is due.may_play).mail.node in
        subst (λ (k : ℕ). NoneBehind k v.seen n) number
        (due.behind v.seen n size (subst (λ (k : ℕ). IsWhole k v.seen t.mail) (sym number) all) (sym (work.seen place n t saw there_is).0))

-- it has waited for good
node_there : (w : World) (place : ℕ) → place < length w → (n : Node) × (slice_get w place ≡ Some n)
node_there [] place low = absurd (omega (arith, low))
node_there (x ∷ xs) zero low = (x, refl)
node_there (x ∷ xs) (suc place) low = node_there xs place (omega (arith, low))

pub waited_out : (seen : World) (stations : List Station) (nodes rounds : ℕ) → AreSeen seen stations → length seen ≡ nodes
    → AllHad stations nodes rounds → SomeWaited stations nodes rounds → IsWaitedOutForGood rounds seen
waited_out seen stations nodes rounds saw size had some =
    let there = node_there seen some.place (let low = some.low in omega (arith, low, size)) in
    let waited = (saw some.place there.0 some.station there.1 some.here).1 in
    record {
      each = each;
      node = suc some.place;
      n = there.0;
      has = there.1;
      waited = let w = some.waited in omega (arith, w, waited);
    }
  where
    each : (node : ℕ) (n : Node) → node_of seen node ≡ Some n → rounds ≤ n.rounds
    each zero n has = absurd (cc)
    each (suc place) n has =
        let low = slice_get_within seen place n has in
        let s = had place (omega (arith, low, size)) in
        let same = (saw place n s.0 has s.1).0 in
        let long = s.2 in
        omega (arith, same, long)

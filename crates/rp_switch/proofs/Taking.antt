-- A node is taken.
use Rattle.std.proofs.Common.{◌≡◌, ◌≢◌, ℕ, zero, suc, ◌+◌, ◌<◌, eqb, Bool, List, set, refl, ap, sym, ◌∙◌, arith, subst, slice_index, slice_set, slice_get, Some}
use Rattle.std.proofs.lemmas.List.{length-set, get_or-set_same, get_or-set_other}
use mathlib.Core.Option as maybe
use mathlib.Core.Logic.{dite}
use native.Mathlib.Decide.{ℕ_discrete}
use prog.Atomic.{either}
use lib.ListN.{get_elem?}
use Rattle.atomic_table.specs.Table.{State, step, Act, keeps, takes, Valid, Allows, stepped, carried_after}
use Rattle.atomic_table.proofs.Lists.{exchanged, set_else}
use Rattle.rp_journals.proofs.Growing.{later_refl, some_node}
use Rattle.rp_journals.proofs.Lists.{set_other}
use Rattle.rp_events.specs.Nodes.{Node}
use Rattle.rp_events.specs.Worlds.{World, node_of}
use Rattle.rp_events.specs.Lawful.{IsReached}
use Rattle.rp_race.specs.Gives.{AllSeen, WasSeen}
use Rattle.rp_node.specs.Steps.{Held}
use Rattle.rp_switch.specs.declared.slots.Slot.{Slot}
use Rattle.rp_switch.specs.declared.slots.Slot.TheVariants.{Body}
use Rattle.rp_switch.specs.declared.terms.Terms.{Terms}
use Rattle.rp_switch.specs.Views.{Stage, Idle, HasNode, HasCell, Chooses, Found, Knowledge, noting, taking}
use Rattle.rp_switch.specs.Rules.{Phase, home, out, Cell, node_word, InPhase, AtStage, Knows, IsWith, Kept}
use Rattle.rp_switch.specs.Plays as plays
use Rattle.rp_switch.specs.Plays.{Standing}
use Rattle.rp_switch.proofs.Nows.{set_at, admitted_on, is_now}
use Rattle.rp_switch.proofs.Places.{put, put_here, put_else, at_put}
use Rattle.rp_switch.proofs.Frames.{set_there, still_with, rebuilt, stands, home_stays, cell_stays}

-- what a seat knows of its node stays so under other words for another
pub stage_away : (t : Terms) (w : World) (phases : ℕ → Phase) (cells : ℕ → Cell) (place j : ℕ) (p : Phase) (seen : World) (st : Stage)
    → phases place ≢ out j → AtStage t w phases cells j seen st → AtStage t w (put phases place p) cells j seen st
stage_away t w phases cells place j p seen Idle free at = tt
stage_away t w phases cells place j p seen (HasNode q world) free at = record {
  low = at.low;
  has = put_else phases place q p (λ e. free (subst (λ z. phases z ≡ out j) e at.has)) ∙ at.has;
  reached = at.reached;
  later = at.later;
  same = at.same;
  saw = at.saw;
}
stage_away t w phases cells place j p seen (HasCell q) free at = at
stage_away t w phases cells place j p seen (Chooses c) free at = tt

pub knows_away : (t : Terms) (k-world : World) (place j : ℕ) (p : Phase) (u : Knowledge) {tries : ℕ → List _} {broken : ℕ → Bool} {phases : ℕ → Phase} {cells : ℕ → Cell}
    → phases place ≢ out j → Knows t k-world tries broken phases cells j u → Knows t k-world tries broken (put phases place p) cells j u
knows_away t w place j p u {tries} {broken} {phases} {cells} free known = record {
  stage = stage_away t w phases cells place j p u.seen u.stage free known.stage;
  rights = known.rights;
  spent = known.spent;
  whole = known.whole;
}

-- one more node is seen as it is now
pub sees : (nodes : ℕ) (seen w : World) (place : ℕ) (x : Node) → place < nodes → IsReached nodes w → slice_get w place ≡ Some x
    → AllSeen nodes seen w → AllSeen nodes (slice_set seen place x) w
sees nodes seen w place x low reached has all = record {
  size = length-set seen place x ∙ all.size;
  each = each;
}
  where
    now : WasSeen nodes w (suc place) x
    now = record { before = w; reached = reached; later = later_refl w; has = has }

    each : (node : ℕ) (n : Node) → node_of (slice_set seen place x) node ≡ Some n → WasSeen nodes w node n
    each zero n e = all.each zero n e
    each (suc q) n e = dite (ℕ_discrete q place)
        (λ is. subst (λ (z : ℕ). WasSeen nodes w (suc z) n) (sym is)
        (subst (λ (y : Node). WasSeen nodes w (suc place) y)
        (some_node x n (sym (set_at seen place x (subst (λ (z : ℕ). place < z) (sym all.size) low)) ∙ ap (λ (z : ℕ). slice_get (slice_set seen place x) z) (sym is) ∙ e)) now))
        (λ away. all.each (suc q) n (sym (set_other seen place q x away) ∙ e))

-- a word that is not 0 is 1
is_taken : (p : Phase) → node_word p ≢ 0 → node_word p ≡ 1
is_taken home away = absurd (away refl)
is_taken (out j) away = refl

module _ {E : Type 0} where
  -- a node whose word is 0 is at home
  is_home : (homes : List (maybe.Option (Slot E))) (w : World) (place : ℕ) (p : Phase) → node_word p ≡ 0 → InPhase homes w place p
      → (p ≡ home) × InPhase homes w place home
  is_home homes w place home zero_there is = (refl, is)
  is_home homes w place (out j) zero_there is = absurd (omega (arith, zero_there))

  -- an exchange of a node's word that finds 0
  take_hits : (t : Terms) (id place : ℕ) (s : State (Slot E) Knowledge) (v : Knowledge) (k : Kept t s)
      → get_elem? s.views id ≡ maybe.some v → place < t.nodes → v.stage ≡ Idle → 0 < v.parts
      → (x : Held E) → k.phases place ≡ home → slice_get k.world place ≡ Some x.node
      → Kept t record { words = set s.words place 1; homes = set s.homes place maybe.none; views = set s.views id (taking place k.world x.node v) }
  take_hits t id place s v k at low idle some_part x at_home has =
      let w = taking place k.world x.node v in
      let known = k.each_seat id v at in
      let whole = known.whole some_part in
      let words : List ℕ = set s.words place 1 in
      let homes : List (maybe.Option (Slot E)) = set s.homes place maybe.none in
      let wide = k.wide in
      let away_from : (j : ℕ) → k.phases place ≢ out j = λ j e. cc in
      rebuilt t s id v w k at refl (λ i. refl) k.world k.broken k.tries (put k.phases place (out id)) k.cells words homes
      k.reached k.race k.each_client
      (length-set s.words place 1 ∙ k.wide) (length-set s.homes place maybe.none ∙ k.long)
      (λ q small. at_put (λ y (p : Phase). (slice_index words y ≡ node_word p) × InPhase homes k.world y p) k.phases place (out id) q
      (λ e. (subst (λ y. slice_index words y ≡ 1) (sym e) (get_or-set_same s.words place 1 0 (omega (arith, wide, low))), tt))
      (λ away. (
        get_or-set_other s.words place q 1 0 away ∙ (k.nodes q small).0,
        home_stays s.homes homes k.world q (k.phases q) (set_else s.homes place q maybe.none away) (k.nodes q small).1,
      )))
      (λ q small. (
        get_or-set_other s.words place (t.nodes + q) 1 0 (λ e. omega (arith, e, low)) ∙ (k.replies q small).0,
        cell_stays t s.homes homes k.world q (k.cells q) (set_else s.homes place (t.nodes + q) maybe.none (λ e. omega (arith, e, low))) (k.replies q small).1,
      ))
      (record {
        stage = record {
          low = low;
          has = put_here k.phases place place (out id) refl;
          reached = k.reached;
          later = later_refl k.world;
          same = refl;
          saw = has ∙ sym (set_at v.seen place x.node (subst (λ (z : ℕ). place < z) (sym whole.seen.size) low));
        };
        rights = known.rights;
        spent = λ none_left. absurd (omega (arith, none_left, some_part));
        whole = λ _. record { terms = whole.terms; seen = sees t.nodes v.seen k.world place x.node low k.reached has whole.seen; rights = whole.rights; heard = whole.heard; admitted = admitted_on v.rights v.rights v.seen k.world k.world place x.node (subst (λ (z : ℕ). place < z) (sym whole.seen.size) low) has (λ q away. refl) (λ q rounds. rounds) whole.admitted };
      })
      (λ j u away e. knows_away t k.world place j (out id) u (away_from j) (k.each_seat j u e))
      (λ q j. at_put (λ y (p : Phase). p ≡ out j → IsWith (set s.views id w) y j) k.phases place (out id) q
      (λ e is. subst (λ (i : ℕ). IsWith (set s.views id w) q i) (out_same id j is)
      (record { view = w; at = set_there s.views id v w at; world = k.world; has = ap (λ (y : ℕ). HasNode y k.world) (sym e) }))
      (λ away is. still_with s.views id v w at q j (λ world is_there. absurd (let i = idle in cc)) (k.with_seat q j is)))
    where
      out_same : (i j : ℕ) → out i ≡ out j → i ≡ j
      out_same i j e = cc

  pub takes_node : (t : Terms) (slots id place : ℕ) (me : Standing E) → place < t.nodes → me.0.stage ≡ Idle → 0 < me.0.parts
      → Allows (Kept t) slots id me place (λ z. either (eqb z 0) 1 z) (plays.took (step slots place 0 1 maybe.none) me)
  takes_node t slots id place me low idle some_part s k long at small =
      let found : ℕ = slice_index s.words place in
      let known = k.each_seat id me.0 at in
      exchanged found 0 1 (λ z. (w : Knowledge) × (a : Act (Slot E)) × Valid s.homes me.1 a × Kept t (stepped s place z id me.1 w a) × plays.took (step slots place 0 1 maybe.none) me found (w, carried_after me.1 a))
      (λ hit. let there = is_home s.homes k.world place (k.phases place) (sym (k.nodes place low).0 ∙ hit) (k.nodes place low).1 in
      let x = there.1.0 in (
        taking place k.world x.node me.0,
        takes place (Body x),
        there.1.1,
        take_hits t id place s me.0 k at low idle some_part x there.0 there.1.2,
        ((λ _. (x, k.world, is_now t s k id me.0 at some_part, there.1.2, refl, refl)), (λ miss. absurd (miss hit))),
      ))
      (λ miss. let w = noting (Found place found) me.0 in (
        w,
        keeps,
        tt,
        stands t s id place me.0 w k at refl (λ j. refl) (λ y world is. is)
            (record { stage = known.stage; rights = known.rights; spent = λ none_left. absurd (omega (arith, none_left, some_part)); whole = λ p. let h = known.whole p in record { terms = h.terms; seen = h.seen; rights = h.rights; heard = h.heard; admitted = h.admitted } }),
        ((λ hit. absurd (miss hit)), (λ _. ((k.nodes place low).0 ∙ is_taken (k.phases place) (λ e. miss ((k.nodes place low).0 ∙ e)), refl, refl))),
      ))

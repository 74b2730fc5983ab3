-- What two seats saw together.
use Rattle.std.proofs.Common.{◌≡◌, ℕ, zero, suc, ◌+◌, ◌≤◌, eqb, cond, Bool, true, false, not, ◌&&◌, [], ◌∷◌, length, refl, ap, sym, ◌∙◌, arith, subst, slice_get, Some}
use Rattle.std.proofs.lemmas.Bool.{eqb-true, eq-eqb}
use Rattle.rp_journals.proofs.Growing.{some_node}
use Rattle.rp_events.specs.Nodes.{Node}
use Rattle.rp_events.specs.Worlds.{World, node_of}
use Rattle.rp_race.specs.Gives.{AllSeen, WasSeen, OnlyAdmitted}
use Rattle.rp_race.proofs.Going.{only_itself}
use Rattle.rp_switch.specs.declared.terms.Terms.{Terms}
use Rattle.rp_switch.specs.Views.{Right, Lacks, Tries, Rounds, BrokenOff, Stage, Idle, HasNode, HasCell, Chooses, Knowledge, right_at, has_node, is_rounds, seen_by, knows_better, either_right, together}
use Rattle.rp_switch.specs.Rules.{Phase, Cell, AtStage, OnlyAdmittedSince, weight, right_on}
use Rattle.rp_switch.proofs.Rights.{together_at}

first_of : (b : Bool) (n m : Node) → Some (cond b m n) ≡ cond b (Some m) (Some n)
first_of true n m = refl
first_of false n m = refl

-- each node is as the one or the other saw it
pub at_seen : (p : ℕ → Bool) (k : ℕ) (ns ms : World) → length ns ≡ length ms → (j : ℕ)
    → slice_get (seen_by p k ns ms) j ≡ cond (p (k + j)) (slice_get ms j) (slice_get ns j)
unfolding seen_by
at_seen p k [] [] e j = by_test (p (k + j))
  where
    nothing : World
    nothing = []

    by_test : (b : Bool) → slice_get nothing j ≡ cond b (slice_get nothing j) (slice_get nothing j)
    by_test true = refl
    by_test false = refl
at_seen p k [] (m ∷ ms) e j = absurd (omega (arith, e))
at_seen p k (n ∷ ns) [] e j = absurd (omega (arith, e))
at_seen p k (n ∷ ns) (m ∷ ms) e zero = first_of (p k) n m ∙ ap (λ (i : ℕ). cond (p i) (Some m) (Some n)) (omega arith)
at_seen p k (n ∷ ns) (m ∷ ms) e (suc j) =
    at_seen p (suc k) ns ms (omega (arith, e)) j ∙ ap (λ (i : ℕ). cond (p i) (slice_get ms j) (slice_get ns j)) (omega arith)

seen_long : (p : ℕ → Bool) (k : ℕ) (ns ms : World) → length (seen_by p k ns ms) ≡ length ns
unfolding seen_by
seen_long p k [] ms = refl
seen_long p k (n ∷ ns) [] = refl
seen_long p k (n ∷ ns) (m ∷ ms) = ap suc (seen_long p (suc k) ns ms)

at_place : (p : ℕ → Bool) (ns ms : World) → length ns ≡ length ms → (j : ℕ) (b : Bool) → p j ≡ b
    → slice_get (seen_by p 0 ns ms) j ≡ cond b (slice_get ms j) (slice_get ns j)
at_place p ns ms e j b is =
    at_seen p 0 ns ms e j ∙ ap (λ (i : ℕ). cond (p i) (slice_get ms j) (slice_get ns j)) (omega arith)
    ∙ ap (λ (c : Bool). cond c (slice_get ms j) (slice_get ns j)) is

pub seen_both : (nodes : ℕ) (w : World) (p : ℕ → Bool) (ns ms : World) → AllSeen nodes ns w → AllSeen nodes ms w → AllSeen nodes (seen_by p 0 ns ms) w
seen_both nodes w p ns ms first second = record {
  size = seen_long p 0 ns ms ∙ first.size;
  each = each;
}
  where
    by_test : (q : ℕ) (n : Node) (b : Bool) → cond b (slice_get ms q) (slice_get ns q) ≡ Some n → WasSeen nodes w (suc q) n
    by_test q n true e = second.each (suc q) n e
    by_test q n false e = first.each (suc q) n e

    each : (node : ℕ) (n : Node) → node_of (seen_by p 0 ns ms) node ≡ Some n → WasSeen nodes w node n
    each zero n e = absurd (cc)
    each (suc q) n e = by_test q n (p q) (sym (at_place p ns ms (first.size ∙ sym second.size) q (p q) refl) ∙ e)

-- the seat saw its own node as it has it
not_better : (rounds : Bool) (q : ℕ) → rounds && not (eqb q q) ≡ false
not_better rounds q = ap (λ (b : Bool). rounds && not b) (eq-eqb q q refl) ∙ by_test rounds
  where
    by_test : (b : Bool) → b && false ≡ false
    by_test true = refl
    by_test false = refl

pub stage_both : (t : Terms) (w : World) (phases : ℕ → Phase) (cells : ℕ → Cell) (id : ℕ) (v u : Knowledge) (st : Stage)
    → length v.seen ≡ t.nodes → length u.seen ≡ t.nodes → AtStage t w phases cells id v.seen st → v.stage ≡ st
    → AtStage t w phases cells id (seen_by (knows_better v u) 0 v.seen u.seen) st
stage_both t w phases cells id v u Idle one two at is = tt
stage_both t w phases cells id v u (HasNode place world) one two at is = record {
  low = at.low;
  has = at.has;
  reached = at.reached;
  later = at.later;
  same = at.same;
  saw = at.saw ∙ sym (at_place (knows_better v u) v.seen u.seen (one ∙ sym two) place false
      (ap (λ (s : Stage). is_rounds (right_at u.rights place) && not (has_node s place)) is ∙ not_better (is_rounds (right_at u.rights place)) place));
}
stage_both t w phases cells id v u (HasCell place) one two at is = at
stage_both t w phases cells id v u (Chooses choice) one two at is = tt

rounds_is : (r : Right) → is_rounds r ≡ true → r ≡ Rounds
rounds_is Lacks e = absurd (cc)
rounds_is (Tries ts) e = absurd (cc)
rounds_is Rounds e = refl
rounds_is BrokenOff e = absurd (cc)

-- a right to rounds that one of two seats has is the one's or the other's
one_rounds : (r s : Right) → weight r + weight s ≤ 1 → either_right r s ≡ Rounds → is_rounds s ≡ false → r ≡ Rounds
one_rounds Lacks s few e lacks = absurd (let i : is_rounds s ≡ true = ap is_rounds e in cc)
one_rounds (Tries ts) s few e lacks = e
one_rounds Rounds s few e lacks = refl
one_rounds BrokenOff s few e lacks = e

-- where the other may play the rounds of the node that the first has, it was seen as it is
has_it : (t : Terms) (w : World) (phases : ℕ → Phase) (cells : ℕ → Cell) (id : ℕ) (seen : World) (st : Stage) (q : ℕ) → has_node st q ≡ true
    → AtStage t w phases cells id seen st → slice_get w q ≡ slice_get seen q
has_it t w phases cells id seen Idle q e at = absurd (cc)
has_it t w phases cells id seen (HasNode place world) q e at =
    subst (λ (z : ℕ). slice_get w z ≡ slice_get seen z) (eqb-true place q e) (at.same ∙ at.saw)
has_it t w phases cells id seen (HasCell place) q e at = absurd (cc)
has_it t w phases cells id seen (Chooses choice) q e at = absurd (cc)

pub admitted_both : (t : Terms) (w : World) (phases : ℕ → Phase) (cells : ℕ → Cell) (id : ℕ) (v u : Knowledge)
    → length v.seen ≡ t.nodes → length u.seen ≡ t.nodes → AtStage t w phases cells id v.seen v.stage
    → ((k : ℕ) → right_on k v + right_on k u ≤ 1)
    → OnlyAdmittedSince v.rights v.seen w → OnlyAdmittedSince u.rights u.seen w
    → OnlyAdmittedSince (together v.rights u.rights) (seen_by (knows_better v u) 0 v.seen u.seen) w
admitted_both t w phases cells id v u one two at few mine theirs q before now rounds saw there =
    by_test (is_rounds (right_at u.rights q)) (has_node v.stage q) refl refl
  where
    here : (b : Bool) → knows_better v u q ≡ b → cond b (slice_get u.seen q) (slice_get v.seen q) ≡ Some before
    here b is = sym (at_place (knows_better v u) v.seen u.seen (one ∙ sym two) q b is) ∙ saw

    by_test : (a b : Bool) → is_rounds (right_at u.rights q) ≡ a → has_node v.stage q ≡ b → OnlyAdmitted before now
    by_test true true r h =
        let same : before ≡ now = some_node before now
        (sym (here false (ap (λ (c : Bool). c && not (has_node v.stage q)) r ∙ ap not h)) ∙ sym (has_it t w phases cells id v.seen v.stage q h at) ∙ there) in
        subst (λ (y : Node). OnlyAdmitted before y) same (only_itself before)
    by_test true false r h =
        theirs q before now (rounds_is (right_at u.rights q) r)
        (here true (ap (λ (c : Bool). c && not (has_node v.stage q)) r ∙ ap not h)) there
    by_test false b r h =
        mine q before now
        (one_rounds (right_at v.rights q) (right_at u.rights q) (few q) (sym (together_at v.rights u.rights q) ∙ rounds) r)
        (here false (ap (λ (c : Bool). c && not (has_node v.stage q)) r)) there

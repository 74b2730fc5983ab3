-- What the rule tells of the world as a step finds it.
use Rattle.std.proofs.Common.{◌≡◌, ◌≢◌, ℕ, suc, ◌+◌, ◌-◌, ◌<◌, ◌≤◌, Bool, List, [], ◌∷◌, zero, length, refl, ap, sym, ◌∙◌, arith, subst, slice_get, slice_set, Some}
use Rattle.std.proofs.lemmas.Bool.{ltb-true}
use mathlib.Core.Option as maybe
use mathlib.Core.Logic.{dite}
use native.Mathlib.Decide.{ℕ_discrete}
use lib.ListN.{get_elem?}
use Rattle.atomic_table.specs.Table.{State}
use Rattle.rp_journals.proofs.Growing.{some_node}
use Rattle.rp_journals.proofs.Lists.{set_other}
use Rattle.rp_events.specs.Nodes.{Node}
use Rattle.rp_events.specs.Worlds.{World}
use Rattle.rp_events.specs.Lawful.{IsReached}
use Rattle.rp_race.specs.Gives.{Tried, AllSeen, OnlyAdmitted}
use Rattle.rp_race.specs.Played.{IsTriesOf}
use Rattle.rp_race.specs.Race.{IsRace}
use Rattle.rp_race.proofs.Going.{only_itself}
use Rattle.rp_switch.specs.declared.slots.Slot.{Slot}
use Rattle.rp_switch.specs.declared.terms.Terms.{Terms}
use Rattle.rp_switch.specs.Views.{Right, Lacks, Tries, Rounds, BrokenOff, Knowledge, right_at}
use Rattle.rp_switch.specs.Gifts.{tries_in, tries_known, IsTries}
use Rattle.rp_switch.specs.Rules.{OnlyAdmittedSince, IsNow, RightOf, IsWhole, Kept}
use Rattle.rp_switch.proofs.Given.{Agree}

-- what a seat knows of a client's tries is so
tries_so : (t : Terms) (tries : Tried) (broken : ℕ → Bool) (k : ℕ) (r : Right) → RightOf t tries broken k r → IsTries r
    → (t.nodes ≤ k) × (tries_in r ≡ tries (suc (k - t.nodes)))
tries_so t tries broken k Lacks known is = absurd is
tries_so t tries broken k (Tries ts) known is = (known.0, sym known.1)
tries_so t tries broken k Rounds known is = absurd is
tries_so t tries broken k BrokenOff known is = absurd is

pub agrees : (t : Terms) (tries : Tried) (broken : ℕ → Bool) (v : Knowledge) → 0 < t.nodes → v.terms ≡ t
    → ((k : ℕ) → RightOf t tries broken k (right_at v.rights k)) → Agree v (tries_known v) tries
agrees t tries broken v some terms known client carries =
    let nodes : v.terms.nodes ≡ t.nodes = ap (λ (u : Terms). u.nodes) terms in
    let k : ℕ = v.terms.nodes + client - 1 in
    let so = tries_so t tries broken k (right_at v.rights k) (known k) carries in
    let past = so.0 in
    so.1 ∙ ap tries (omega (arith, nodes, some, past))

pub some_nodes : (t : Terms) (w : World) → IsReached t.nodes w → 0 < t.nodes
some_nodes t w reached = ltb-true 0 t.nodes reached.some

pub set_at : (l : World) (i : ℕ) (a : Node) → i < length l → slice_get (slice_set l i a) i ≡ Some a
set_at [] i a less = absurd (omega (arith, less))
set_at (y ∷ ys) zero a less = refl
set_at (y ∷ ys) (suc i) a less = set_at ys i a (omega (arith, less))

-- where one node goes on and is seen as it is then, and no right to rounds comes to be, the others have only admitted
pub admitted_on : (rights after : List Right) (seen w later : World) (place : ℕ) (x : Node) → place < length seen → slice_get later place ≡ Some x
    → ((q : ℕ) → q ≢ place → slice_get later q ≡ slice_get w q) → ((q : ℕ) → right_at after q ≡ Rounds → right_at rights q ≡ Rounds)
    → OnlyAdmittedSince rights seen w → OnlyAdmittedSince after (slice_set seen place x) later
admitted_on rights after seen w later place x low has others less was q before now rounds saw there = dite (ℕ_discrete q place)
    (λ e.
    let b : x ≡ before = some_node x before (sym (set_at seen place x low) ∙ ap (λ (z : ℕ). slice_get (slice_set seen place x) z) (sym e) ∙ saw) in
    let n : x ≡ now = some_node x now (sym has ∙ ap (λ (z : ℕ). slice_get later z) (sym e) ∙ there) in
    subst (λ (y : Node). OnlyAdmitted y now) b (subst (λ (y : Node). OnlyAdmitted x y) n (only_itself x)))
    (λ away. was q before now (less q rounds) (sym (set_other seen place q x away) ∙ saw) (sym (others q away) ∙ there))

module _ {E : Type 0} where
  -- all that a seat knows is so of the rule's world
  pub is_now : (t : Terms) (s : State (Slot E) Knowledge) (k : Kept t s) (id : ℕ) (v : Knowledge) → get_elem? s.views id ≡ maybe.some v → 0 < v.parts
      → IsNow v k.world
  is_now t s k id v at some_part =
      let known = k.each_seat id v at in
      let whole : IsWhole t k.world v = known.whole some_part in
      record {
        reached = subst (λ (u : Terms). IsReached u.nodes k.world) (sym whole.terms) k.reached;
        past = subst (λ (u : Terms). AllSeen u.nodes v.seen k.world) (sym whole.terms) whole.seen;
        broken = k.broken;
        race = subst (λ (u : Terms). IsRace u.rules k.broken k.world) (sym whole.terms) k.race;
        unbroken = λ place rounds. (subst (λ (r : Right). RightOf t k.tries k.broken place r) rounds (known.rights place)).1;
        admitted = whole.admitted;
        tries = k.tries;
        each = λ client. subst (λ (u : Terms). IsTriesOf u.rules k.world client (k.tries client)) (sym whole.terms) (k.each_client client);
        kept = agrees t k.tries k.broken v (some_nodes t k.world k.reached) whole.terms known.rights;
      }

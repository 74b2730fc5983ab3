-- A seat takes a node and gives it back.
use Rattle.std.proofs.Common.{◌≡◌, ◌≢◌, ℕ, zero, suc, ◌+◌, ◌-◌, ◌<◌, ◌≤◌, ⊎_elim, eqb, cond, Bool, true, false, not, ◌&&◌, List, [], ◌∷◌, length, refl, sym, ap, subst, ◌∙◌, arith, slice_get, slice_set, Option, Some, None, Ok, Err}
use Rattle.std.proofs.lemmas.Bool.{cases_eq, eqb-true}
use Rattle.std.proofs.lemmas.List.{length-set}
use Rattle.rp_journals.specs.Growth.{Begins, Grows, HasLater, WorldGrows}
use Rattle.rp_journals.proofs.Growing.{later_grows, run_grows, one_node, some_node}
use Rattle.rp_journals.proofs.Lists.{set_other, begins_refl}
use Rattle.rp_journals.specs.Asked.{all_at}
use Rattle.rp_events.specs.Nodes.{Node}
use Rattle.rp_events.specs.Worlds.{World, node_of, run}
use Rattle.rp_race.specs.Gives.{AllSeen, WasSeen, OnlyAdmitted, after_round}
use Rattle.rp_switch.specs.declared.switch.Taken.{Taken}
use Rattle.rp_switch.specs.Gifts.{IsRound, IsBrokenRound, MayGive, is_broken_off}
use Rattle.rp_switch.specs.Plays.{right_given, giving}
use Rattle.rp_switch.specs.Rules.{IsNow}
use Rattle.rp_switch.specs.Seats.{Takes, GivesBack}
use Rattle.rp_switch.specs.Views.{Right, Lacks, Tries, Rounds, BrokenOff, Stage, Idle, Look, Knowledge, right_at, is_rounds, taking}
use Rattle.rp_switch.proofs.Backing.{may_give_back, took_it, right_after, seen_after, seen_else}
use Rattle.rp_serving.proofs.Halfway.{there_in}
use Rattle.rp_bench.specs.Visits.{IsQuiet, TakesAtLast}
use Rattle.rp_bench.specs.Worked.{is_lacking, is_idle, IsOnward}
use Rattle.rp_bench.proofs.Onward.{lacking_is}

-- the seat took the node as it was in this world, and gave it as it is now
pub record Visit (v : Knowledge) (node : ℕ) (at : World) (before after : Node) (w : Knowledge) : Type 0 where
  pub some : 1 ≤ node
  pub low : node ≤ v.terms.nodes
  pub now : IsNow v at
  pub here : slice_get at (node - 1) ≡ Some before
  pub terms : w.terms ≡ v.terms
  pub parts : w.parts ≡ v.parts
  pub idle : w.stage ≡ Idle
  pub seen : w.seen ≡ slice_set (slice_set v.seen (node - 1) before) (node - 1) after
  pub rights : (k : ℕ) → right_at w.rights k ≡ right_given v.terms.nodes (node - 1) before after k (right_at v.rights k)

-- what is so now is so whatever was noted
now_noted : (v : Knowledge) (ls : List Look) (at : World) → IsNow (record v { looks = ls }) at → IsNow v at
now_noted v ls at n = record {
  reached = n.reached;
  past = n.past;
  broken = n.broken;
  race = n.race;
  unbroken = n.unbroken;
  admitted = n.admitted;
  tries = n.tries;
  each = n.each;
  kept = n.kept;
}

module _ {E : Type 0} where
  abbrev pub world_at : (v w : Knowledge) (node : ℕ) (t : Taken E) → TakesAtLast v node t w → World
  world_at v w node t taken = taken.takes.0

  pub now_at : (v w : Knowledge) (node : ℕ) (t : Taken E) → (taken : TakesAtLast v node t w) → IsNow v (world_at v w node t taken)
  now_at v w node t taken =
      now_noted v taken.knew.looks (world_at v w node t taken) (subst (λ (u : Knowledge). IsNow u (world_at v w node t taken)) taken.quiet taken.takes.1)

  -- what it knows while it has the node
  pub known_at : (v w : Knowledge) (node : ℕ) (t : Taken E) → (taken : TakesAtLast v node t w)
      → w ≡ taking (node - 1) (world_at v w node t taken) t.node.node (record v { looks = taken.knew.looks })
  known_at v w node t taken = taken.takes.4 ∙ ap (taking (node - 1) (world_at v w node t taken) t.node.node) taken.quiet

  pub saw_at : (v w : Knowledge) (node : ℕ) (t : Taken E) → 1 ≤ node → node ≤ v.terms.nodes → (taken : TakesAtLast v node t w)
      → slice_get w.seen (node - 1) ≡ Some t.node.node
  saw_at v w node t some low taken =
      ap (λ (u : Knowledge). slice_get u.seen (node - 1)) (known_at v w node t taken)
      ∙ took_it v node (world_at v w node t taken) t.node.node some low (now_at v w node t taken)

  pub visited : (v w left : Knowledge) (node : ℕ) (t : Taken E) (after : Node) → 1 ≤ node → node ≤ v.terms.nodes → (taken : TakesAtLast v node t w)
      → GivesBack w t.number after left → Visit v node (world_at v w node t taken) t.node.node after left
  visited v w left node t after some low taken gave =
      let at = world_at v w node t taken in
      let u : Knowledge = record v { looks = taken.knew.looks } in
      let is : left ≡ giving (node - 1) t.node.node after (taking (node - 1) at t.node.node u) =
      gave t.node.node (ap (λ (k : ℕ). slice_get w.seen (k - 1)) taken.takes.3 ∙ saw_at v w node t some low taken)
      ∙ ap (λ (k : ℕ). giving (k - 1) t.node.node after w) taken.takes.3
      ∙ ap (giving (node - 1) t.node.node after) (known_at v w node t taken) in
      record {
        some = some;
        low = low;
        now = now_at v w node t taken;
        here = taken.takes.2;
        terms = ap (λ (k : Knowledge). k.terms) is;
        parts = ap (λ (k : Knowledge). k.parts) is;
        idle = ap (λ (k : Knowledge). k.stage) is;
        seen = ap (λ (k : Knowledge). k.seen) is;
        rights = λ k. ap (λ (z : Knowledge). right_at z.rights k) is ∙ right_after (node - 1) t.node.node after (taking (node - 1) at t.node.node u) k;
      }

  -- it may give the node back as it is
  pub could_visit : (v w : Knowledge) (node : ℕ) (t : Taken E) → 1 ≤ node → node ≤ v.terms.nodes → (taken : TakesAtLast v node t w)
      → Visit v node (world_at v w node t taken) t.node.node t.node.node (giving (t.number - 1) t.node.node t.node.node w)
  could_visit v w node t some low taken =
      let saw : slice_get w.seen (t.number - 1) ≡ Some t.node.node = ap (λ (k : ℕ). slice_get w.seen (k - 1)) taken.takes.3 ∙ saw_at v w node t some low taken in
      visited v w (giving (t.number - 1) t.node.node t.node.node w) node t t.node.node some low taken
      (λ before took. ap (λ (x : Node). giving (t.number - 1) x t.node.node w) (some_node t.node.node before (sym saw ∙ took)))

  pub may_give_it_back : (v w : Knowledge) (node : ℕ) (t : Taken E) → 1 ≤ node → node ≤ v.terms.nodes → TakesAtLast v node t w → MayGive w w.stage t.number t.node.node
  may_give_it_back v w node t some low taken =
      may_give_back taken.knew w node t some (subst (λ (k : ℕ). node ≤ k) (sym (ap (λ (u : Knowledge). u.terms.nodes) taken.quiet)) low) taken.takes

module _ (v w : Knowledge) (node : ℕ) (at : World) (before after : Node) (s : Visit v node at before after w) where
  -- the node is seen as it was given, and the others as before
  pub seen_size : length w.seen ≡ length v.seen
  seen_size = ap length s.seen ∙ length-set (slice_set v.seen (node - 1) before) (node - 1) after ∙ length-set v.seen (node - 1) before

  pub seen_here : slice_get w.seen (node - 1) ≡ Some after
  seen_here =
      let long = length-set v.seen (node - 1) before in
      let size = s.now.past.size in
      let some = s.some in
      let low = s.low in
      ap (λ l. slice_get l (node - 1)) s.seen ∙ seen_after (node - 1) before after (taking (node - 1) at before v) (omega (arith, long, size, some, low))

  pub seen_there : (q : ℕ) → q ≢ node - 1 → slice_get w.seen q ≡ slice_get v.seen q
  seen_there q away =
      ap (λ l. slice_get l q) s.seen ∙ set_other (slice_set v.seen (node - 1) before) (node - 1) q after away ∙ set_other v.seen (node - 1) q before away

  pub has_node : node_of at node ≡ Some before
  has_node = go node s.some s.here where
    go : (k : ℕ) → 1 ≤ k → slice_get at (k - 1) ≡ Some before → node_of at k ≡ Some before
    go zero some here = absurd (omega (arith, some))
    go (suc place) some here = subst (λ k. slice_get at k ≡ Some before) (omega arith) here

  -- the node was seen before
  pub saw_before : (n : Node) × (slice_get v.seen (node - 1) ≡ Some n)
  saw_before =
      let size = s.now.past.size in
      let some = s.some in
      let low = s.low in
      there_in v.seen (node - 1) (omega (arith, size, some, low))

  of_place : (n : Node) → slice_get v.seen (node - 1) ≡ Some n → node_of v.seen node ≡ Some n
  of_place n saw = go node s.some saw where
    go : (k : ℕ) → 1 ≤ k → slice_get v.seen (k - 1) ≡ Some n → node_of v.seen k ≡ Some n
    go zero some e = absurd (omega (arith, some))
    go (suc place) some e = subst (λ k. slice_get v.seen k ≡ Some n) (omega arith) e

  pub grew : (n : Node) → slice_get v.seen (node - 1) ≡ Some n → Grows n before
  grew n saw =
      let was : WasSeen v.terms.nodes at node n = s.now.past.each node n (of_place n saw) in
      let later : HasLater at node n = (later_grows was.before at was.later).each node n was.has in
      subst (Grows n) (one_node at node later.now before later.has has_node) later.grows

  -- where it may play the node's rounds there were only admissions
  pub only_admitted : (n : Node) → slice_get v.seen (node - 1) ≡ Some n → right_at v.rights (node - 1) ≡ Rounds → OnlyAdmitted n before
  only_admitted n saw rounds = s.now.admitted (node - 1) n before rounds saw s.here

  lacking_given : (k : ℕ) (r : Right) → is_lacking r ≡ true → is_lacking (right_given v.terms.nodes (node - 1) before after k r) ≡ true
  lacking_given k r e = ap (λ z. is_lacking (right_given v.terms.nodes (node - 1) before after k z)) (lacking_is r e)

  pub visit_onward : IsOnward v w
  visit_onward = record {
    terms = s.terms;
    parts = s.parts;
    idle = ap is_idle s.idle;
    lacks = λ k e. subst (λ r. is_lacking r ≡ true) (sym (s.rights k)) (lacking_given k (right_at v.rights k) e);
  }

  -- the right to rounds stays, where none of this node was broken off
  pub rounds_stay : (k : ℕ) → right_at v.rights k ≡ Rounds → (k ≡ node - 1 → is_broken_off after ≡ false) → is_rounds (right_at w.rights k) ≡ true
  rounds_stay k rounds whole =
      ap is_rounds (s.rights k ∙ ap (right_given v.terms.nodes (node - 1) before after k) rounds) ∙ by_test (eqb k (node - 1)) refl where
        by_test : (b : Bool) → eqb k (node - 1) ≡ b → is_rounds (cond (eqb k (node - 1) && is_broken_off after) BrokenOff Rounds) ≡ true
        by_test true same = ap (λ b. is_rounds (cond (b && is_broken_off after) BrokenOff Rounds)) same ∙ ap (λ b. is_rounds (cond b BrokenOff Rounds)) (whole (eqb-true k (node - 1) same))
        by_test false same = ap (λ b. is_rounds (cond (b && is_broken_off after) BrokenOff Rounds)) same

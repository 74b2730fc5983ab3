-- A seat takes a node and gives it back: as it was, or after an admission.
use Rattle.std.proofs.Common.{◌≡◌, ◌≢◌, ℕ, zero, suc, ◌+◌, ◌-◌, ◌<◌, ◌≤◌, ⊎_elim, Bool, true, false, List, [], ◌∷◌, length, refl, sym, ap, subst, ◌∙◌, arith, slice_get, slice_set, Option, Some, None, Ok, Err}
use Rattle.std.specs.Option.{option_map_or}
use Rattle.std.proofs.lemmas.Bool.{cases_eq}
use Rattle.rp_journals.proofs.Lists.{set_other, set_same}
use Rattle.rp_clients.specs.Desks.{CameBy}
use Rattle.rp_clients.specs.Tries.{Try}
use Rattle.rp_events.specs.Nodes.{Node}
use Rattle.rp_events.specs.Worlds.{World, node_of}
use Rattle.rp_race.specs.Gives.{Tried, tried_after, admitted_after}
use Rattle.rp_race.specs.Played.{IsTriesOf}
use Rattle.rp_race.proofs.Waited.{seen_not_less}
use Rattle.rp_tried.proofs.Coming.{came_by}
use Rattle.rp_switch.specs.declared.switch.Taken.{Taken}
use Rattle.rp_switch.specs.Gifts.{CarriesClient, AreAdmissions, tries_known}
use Rattle.rp_switch.specs.Plays.{right_given, giving}
use Rattle.rp_switch.specs.Rules.{IsNow}
use Rattle.rp_switch.specs.Seats.{Takes, GivesBack}
use Rattle.rp_switch.specs.Views.{Right, Lacks, Tries, Rounds, BrokenOff, Idle, Look, Knowledge, right_at, noting, taking}
use Rattle.rp_switch.proofs.Backing.{took_it, right_after, carries_after, tries_admitted, seen_after}
use Rattle.rp_desks.specs.Onward.{rounds_seen, is_lacking, has_tries, is_idle, carries, heard_over, IsOnward, Stays, Looks}
use Rattle.rp_desks.proofs.Onward.{tries_are, tries_so, lacking_is}

-- the seat took the node as it was in this world, and gave it as it is now
pub record Visit (v : Knowledge) (node : ℕ) (at : World) (before after : Node) (w : Knowledge) : Type 0 where
  pub some : 1 ≤ node
  pub low : node ≤ v.terms.nodes
  pub now : IsNow v at
  pub here : slice_get at (node - 1) ≡ Some before
  pub leaves : w ≡ giving (node - 1) before after (taking (node - 1) at before v)

module _ {E : Type 0} where
  pub visited : (v w left : Knowledge) (node : ℕ) (t : Taken E) (after : Node) → 1 ≤ node → node ≤ v.terms.nodes → (taken : Takes v node (Ok t) w)
      → GivesBack w t.number after left → Visit v node taken.0 t.node.node after left
  visited v w left node t after some low taken gave = record {
    some = some;
    low = low;
    now = taken.1;
    here = taken.2;
    leaves =
        gave t.node.node (
        ap (λ (k : ℕ). slice_get w.seen (k - 1)) taken.3
        ∙ ap (λ (u : Knowledge). slice_get u.seen (node - 1)) taken.4
        ∙ took_it v node taken.0 t.node.node some low taken.1)
        ∙ ap (λ (k : ℕ). giving (k - 1) t.node.node after w) taken.3
        ∙ ap (λ (u : Knowledge). giving (node - 1) t.node.node after u) taken.4;
  }

-- where the node was taken
pub not_taken : (v w : Knowledge) (client : ℕ) (look : Look) → is_idle v.stage ≡ true → carries v client ≡ true → w ≡ noting look v → Stays client v w
not_taken v w client look idle has is = subst (λ u. Stays client v u) (sym is) (record {
  onward = record {
    terms = refl;
    parts = refl;
    idle = idle;
    carries = has;
    lacks = λ k e. e;
    rounds = λ n. omega arith;
    heard = λ e. e;
  };
  tries = refl;
})

pub seen_some : (v : Knowledge) (at : World) (place : ℕ) (before : Node) (o : Option Node) → IsNow v at → slice_get at place ≡ Some before → slice_get v.seen place ≡ o
    → option_map_or (λ (n : Node). n.rounds) o 0 ≤ before.rounds
seen_some v at place before None now here is = omega arith
seen_some v at place before (Some old) now here is = (seen_not_less v.terms.nodes at (suc place) old (now.past.each (suc place) old is) before here).0

set_length : (seen : World) (place : ℕ) (n : Node) → length (slice_set seen place n) ≡ length seen
set_length [] place n = refl
set_length (x ∷ xs) zero n = refl
set_length (x ∷ xs) (suc place) n = ap suc (set_length xs place n)

-- the node is seen as it was given
given_rounds : (v : Knowledge) (at : World) (place : ℕ) (before after : Node) → length v.seen ≡ v.terms.nodes → place < v.terms.nodes
    → option_map_or (λ (n : Node). n.rounds) (slice_get (slice_set (slice_set v.seen place before) place after) place) 0 ≡ after.rounds
given_rounds v at place before after size low =
    let long = set_length v.seen place before in
    ap (λ o. option_map_or (λ (n : Node). n.rounds) o 0) (seen_after place before after (taking place at before v) (omega (arith, size, long, low)))

rounds_on : (v : Knowledge) (at : World) (place : ℕ) (before after : Node) → IsNow v at → place < v.terms.nodes → slice_get at place ≡ Some before → before.rounds ≤ after.rounds
    → (q : ℕ) → option_map_or (λ (n : Node). n.rounds) (slice_get v.seen q) 0 ≤ option_map_or (λ (n : Node). n.rounds) (slice_get (slice_set (slice_set v.seen place before) place after) q) 0
rounds_on v at place before after now low here more q = ⊎_elim
    (λ (same : q ≡ place).
    let was = seen_some v at place before (slice_get v.seen q) now here (ap (slice_get v.seen) (sym same)) in
    let is = ap (λ k. option_map_or (λ (n : Node). n.rounds) (slice_get (slice_set (slice_set v.seen place before) place after) k) 0) same
    ∙ given_rounds v at place before after now.past.size low in
    omega (arith, was, more, is))
    (λ (away : q ≡ place → ⊥).
    let is = ap (λ o. option_map_or (λ (n : Node). n.rounds) o 0) (set_other (slice_set v.seen place before) place q after away ∙ set_other v.seen place q before away) in
    omega (arith, is))
    (cases_eq q place)

lacking_given : (nodes place k : ℕ) (before after : Node) (r : Right) → is_lacking r ≡ true → is_lacking (right_given nodes place before after k r) ≡ true
lacking_given nodes place k before after r e = ap (λ z. is_lacking (right_given nodes place before after k z)) (lacking_is r e)

-- the seat goes on
pub visit_onward : (v w : Knowledge) (node : ℕ) (at : World) (before after : Node) (client : ℕ) → Visit v node at before after w → carries v client ≡ true
    → before.rounds ≤ after.rounds → IsOnward client v w
visit_onward v w node at before after client s has more = subst (IsOnward client v) (sym s.leaves) (record {
  terms = refl;
  parts = refl;
  idle = refl;
  carries = tries_so _ (carries_after (node - 1) before after (taking (node - 1) at before v) client (tries_are (right_at v.rights (v.terms.nodes + client - 1)) has));
  lacks = λ k e. subst (λ r. is_lacking r ≡ true) (sym (right_after (node - 1) before after (taking (node - 1) at before v) k))
      (lacking_given v.terms.nodes (node - 1) k before after (right_at v.rights k) e);
  rounds = λ n. let some = s.some in let low = s.low in rounds_on v at (node - 1) before after s.now (omega (arith, some, low)) s.here more (n - 1);
  heard = λ e. e;
})

-- what was admitted is tried
pub visit_tries : (v w : Knowledge) (node : ℕ) (at : World) (before after : Node) (client : ℕ) → Visit v node at before after w → 1 ≤ client → carries v client ≡ true
    → (gift : AreAdmissions (taking (node - 1) at before v) (node - 1) before after)
    → tries_known w client ≡ tried_after (suc (node - 1)) before (tries_known v) gift.what client
visit_tries v w node at before after client s first has gift =
    ap (λ (u : Knowledge). tries_known u client) s.leaves
    ∙ tries_admitted (taking (node - 1) at before v) (node - 1) before after gift client first (tries_are (right_at v.rights (v.terms.nodes + client - 1)) has)

-- given as it was
pub visit_stays : (v w : Knowledge) (node : ℕ) (at : World) (before : Node) (client : ℕ) → Visit v node at before before w → 1 ≤ client → carries v client ≡ true → Stays client v w
visit_stays v w node at before client s first has = record {
  onward = visit_onward v w node at before before client s has (omega arith);
  tries = visit_tries v w node at before before client s first has (record { what = []; may = tt; carries = tt; leaves = refl });
}

pub has_node : (w : World) (node : ℕ) (n : Node) → 1 ≤ node → slice_get w (node - 1) ≡ Some n → node_of w node ≡ Some n
has_node w zero n some here = absurd (omega (arith, some))
has_node w (suc place) n some here = subst (λ k. slice_get w k ≡ Some n) (omega arith) here

pub visit_has : (v w : Knowledge) (node : ℕ) (at : World) (before after : Node) → Visit v node at before after w → node_of at node ≡ Some before
visit_has v w node at before after s = has_node at node before s.some s.here

-- its tries are the client's
pub visit_own : (v : Knowledge) (at : World) (client : ℕ) → IsNow v at → carries v client ≡ true → IsTriesOf v.terms.rules at client (tries_known v client)
visit_own v at client now has = subst (IsTriesOf v.terms.rules at client) (sym (now.kept client (tries_are (right_at v.rights (v.terms.nodes + client - 1)) has))) (now.each client)

pub visit_looks : (v w : Knowledge) (node : ℕ) (at : World) (before : Node) (client : ℕ) → Visit v node at before before w → 1 ≤ client → carries v client ≡ true
    → Looks client v node before.rounds w
visit_looks v w node at before client s first has = record {
  stays = visit_stays v w node at before client s first has;
  saw =
      let some = s.some in let low = s.low in
      ap (λ (u : Knowledge). rounds_seen u.seen node) s.leaves
      ∙ given_rounds v at (node - 1) before before s.now.past.size (omega (arith, some, low));
  least = came_by v.terms.rules v.terms.nodes at s.now.reached client (tries_known v client) (visit_own v at client s.now has) node before (visit_has v w node at before before s);
}

-- What the nodes tell of each attempt after a scene, beside where it was made.
use Rattle.std.proofs.Common.{◌≡◌, ℕ, zero, suc, Option, None, Some, List, [], ◌∷◌, set, refl, sym, subst, ◌∙◌}
use Rattle.std.specs.Prelude.{slice_get}
use Rattle.std.specs.Option.{option_map_or}
use Rattle.rp_base.specs.declared.ids.CmdId.{CmdId}
use Rattle.rp_request.specs.Applied.{AppliedState}
use Rattle.rp_request.specs.declared.outcomes.Outcome.TheVariants as outcomes
use Rattle.rp_raftsafe.specs.World as raft
use Rattle.rp_raftsafe.specs.Safety.{OneList}
use Rattle.rp_rangesafe.specs.Attempts.{Body}
use Rattle.rp_rangesafe.specs.Ranges.{Ranges, Owner, Nobody, Turned, At, AreReached, AreLater}
use Rattle.rp_rangesafe.proofs.Runs.{later_grown}
use Rattle.rp_rangesafe.proofs.Joint.{range_goes_on}
use Rattle.rp_events.specs.declared.node_events.Event.{Event}
use Rattle.rp_events.specs.Nodes.{Node}
use Rattle.rp_events.specs.NodeEvents.{step}
use Rattle.rp_events.specs.Worlds.{World, Scene, node_of, with_node, event_of, taken_in, after_step, happens_at, happens, outcome_at}
use Rattle.rp_seats.specs.Standing.{IsTurnedAway, IsMadeIn, IsOwned, Bound}
use Rattle.rp_turns.specs.Turning.{AsksFor, WasThere, SceneTurned}
use Rattle.rp_bound.proofs.Led.{IsSettled}

-- a node of a world is there after a scene too
pub record IsThere (w : World) (node : ℕ) : Type 0 where
  pub n : Node
  pub has : node_of w node ≡ Some n

set_there : (w : World) (place : ℕ) (new : Node) (j : ℕ) (n : Node) → slice_get w j ≡ Some n → (m : Node) × (slice_get (set w place new) j ≡ Some m)
set_there [] place new j n e = absurd cc
set_there (x ∷ w) zero new zero n e = (new, refl)
set_there (x ∷ w) zero new (suc j) n e = (n, e)
set_there (x ∷ w) (suc place) new zero n e = (n, e)
set_there (x ∷ w) (suc place) new (suc j) n e = set_there w place new j n e

with_there : (w : World) (node : ℕ) (new : Node) (other : ℕ) (n : Node) → node_of w other ≡ Some n → IsThere (with_node w node new) other
with_there w zero new other n has = record { n = n; has = has }
with_there w (suc place) new zero n has = absurd cc
with_there w (suc place) new (suc j) n has = let k = set_there w place new j n has in record { n = k.0; has = k.1 }

pub still_there : (w : World) (x : Scene) (node : ℕ) (n : Node) → node_of w node ≡ Some n → IsThere (happens w x) node
still_there w x node n has = by_node (node_of w x.node) where
  by_event : (y : Node) (o : Option (Event AppliedState)) → IsThere (option_map_or (after_step w x.node y (taken_in x.what)) o w) node
  by_event y None = record { n = n; has = has }
  by_event y (Some e) = with_there w x.node (step y e (taken_in x.what)).node node n has

  by_node : (o : Option Node) → IsThere (option_map_or (happens_at w x) o w) node
  by_node None = record { n = n; has = has }
  by_node (Some y) = by_event y (event_of w x.what)

same_node : (a b : Node) (o : Option Node) → o ≡ Some a → o ≡ Some b → a ≡ b
same_node a b o e f = cc

module _ (lists : OneList AppliedState) (w : World) (m : Ranges) (seen : ℕ → List raft.Event) (bound : Bound lists w m seen) (x : Scene)
    (t : SceneTurned lists w m seen x) (v : Ranges) (onward : AreLater m v) where
  abbrev after : World
  after = happens w x

  -- an attempt that the scene does not ask for
  module _ (id : CmdId) (unasked : AsksFor id x.what → ⊥) where
    nothing_more : (node : ℕ) (new : Node) (k : WasThere w x node new) → outcome_at id k.n ≡ None → outcome_at id new ≡ None
    nothing_more node new k none = k.tells.nothing id (λ _ asks. unasked asks) none

    turned_still : IsTurnedAway w id → IsTurnedAway after id
    turned_still k =
        let s = still_there w x k.at k.n k.has in
        let p = t.nodes k.at s.n s.has in
        record {
          at = k.at;
          n = s.n;
          has = s.has;
          why = k.why;
          told = p.tells.ended id (outcomes.Refused k.why) (subst (λ z. outcome_at id z ≡ Some (outcomes.Refused k.why)) (same_node k.n p.n (node_of w k.at) k.has p.was) k.told) tt;
          others = λ node other has apart. let q = t.nodes node other has in nothing_more node other q (k.others node q.n q.was apart);
        }

    made_still : (range : ℕ) → IsMadeIn m w id range → IsMadeIn v after id range
    made_still range k =
        let on = range_goes_on m bound.reached v onward range k.there in
        let same = (later_grown (m.range range) (v.range range) on.1 id).same k.born in
        let s = still_there w x ((m.range range).attempt id).node k.n k.has in
        record {
          there = on.0;
          born = same.born;
          n = s.n;
          has = subst (λ i. node_of after i ≡ Some s.n) same.node s.has;
          others = λ node other has apart. let q = t.nodes node other has in nothing_more node other q (k.others node q.n q.was (λ e. apart (e ∙ same.node)));
        }

    pub owned_still : (o : Owner) → IsOwned m w id o → IsOwned v after id o
    owned_still Nobody k = λ node new has. let q = t.nodes node new has in nothing_more node new q (k node q.n q.was)
    owned_still Turned k = turned_still k
    owned_still (At range) k = made_still range k

  -- the one that it asks for
  module _ (id : CmdId) (nobody : m.owner id ≡ Nobody) (n : Node) (has : node_of w x.node ≡ Some n) (first : Ranges) (reached : AreReached first) (further : AreLater first v)
      (same_owner : v.owner id ≡ first.owner id) where
    none_told : (node : ℕ) (y : Node) → node_of w node ≡ Some y → outcome_at id y ≡ None
    none_told = subst (IsOwned m w id) nobody (bound.owned id)

    elsewhere : (node : ℕ) (other : Node) → node_of after node ≡ Some other → (node ≡ x.node → ⊥) → outcome_at id other ≡ None
    elsewhere node other has' apart =
        let q = t.nodes node other has' in
        q.tells.nothing id (λ here _. apart (sym here)) (none_told node q.n q.was)

    pub owned_new : (granted : Option Body) → IsSettled after first x.node id granted → IsOwned v after id (v.owner id)
    owned_new None k =
        let s = still_there w x x.node n has in
        subst (IsOwned v after id) (sym (same_owner ∙ k.0))
        (record { at = x.node; n = s.n; has = s.has; why = k.1.0; told = k.1.1 s.n s.has; others = elsewhere })
    owned_new (Some body) k =
        let on = range_goes_on first reached v further k.0 k.2 in
        let same = (later_grown (first.range k.0) (v.range k.0) on.1 id).same k.3.0 in
        let node_is = sym same.node ∙ k.3.1 in
        let s = still_there w x x.node n has in
        subst (IsOwned v after id) (sym (same_owner ∙ k.1))
        (record {
          there = on.0;
          born = same.born;
          n = s.n;
          has = subst (λ i. node_of after i ≡ Some s.n) (sym node_is) s.has;
          others = λ node other has' apart. elsewhere node other has' (λ e. apart (e ∙ sym node_is));
        })

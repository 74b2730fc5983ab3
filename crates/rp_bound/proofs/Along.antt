-- Along a lawful schedule the nodes stay beside the ranges, which go on.
use Rattle.std.proofs.Common.{◌≡◌, ℕ, zero, suc, ◌<◌, ◌≤◌, List, [], ◌∷◌, ◌++◌, length, sym, subst, ◌∙◌, arith}
use Rattle.std.specs.Prelude.{Contains, IsTrue, nat_lt, nat_le}
use Rattle.std.proofs.lemmas.Bool.Decides.{nat_tests}
use Rattle.std.proofs.lemmas.List.{append-nil, append_assoc}
use Rattle.rp_raftstep.specs.RaftState.{nodes_to}
use Rattle.rp_request.specs.Applied.{AppliedState}
use Rattle.rp_raftsafe.specs.World as raft
use Rattle.rp_raftsafe.specs.Safety.{OneList}
use Rattle.rp_raftsafe.specs.Proposed.{payloads_of}
use Rattle.rp_rangesafe.specs.Ranges.{Ranges}
use Rattle.rp_events.specs.Worlds.{World, Scene, Schedule, first_world, happens, run}
use Rattle.rp_events.specs.Lawful.{Lawful, AllLawful, IsReached, IsLater}
use Rattle.rp_seats.specs.Scenes.{raft_events}
use Rattle.rp_seats.specs.Standing.{RangeOk, IsShut, Bound}
use Rattle.rp_turns.specs.Fitting.{AreFit}
use Rattle.rp_turns.specs.Turning.{SceneTurned}
use Rattle.rp_turns.proofs.Kept.{first_wide, scene_kept, fit_all}
use Rattle.rp_turns.proofs.Whole.{scene_turned}
use Rattle.rp_bound.specs.Bounds.{Stands, IsStanding, BoundNext, StandsNext, StandsLater, first_seen}
use Rattle.rp_bound.proofs.Admissions.{may_happen, scene_new}
use Rattle.rp_bound.proofs.First.{first_ranges, first_bound}
use Rattle.rp_bound.proofs.Next.{bound_next}
use Rattle.rp_bound.proofs.Onward.{onward_itself, onward_further}
use Rattle.rp_bound.proofs.Small.{replica_below, small_next}
use Rattle.rp_bound.proofs.Starts.{none_handed, first_small}

-- Raft's events may be told by another function that is the same for each range
pub bound_alike : (lists : OneList AppliedState) (w : World) (m : Ranges) (seen other : ℕ → List raft.Event) → ((range : ℕ) → seen range ≡ other range) → Bound lists w m seen → Bound lists w m other
bound_alike lists w m seen other same b = record {
  reached = b.reached;
  shaped = b.shaped;
  ranges = λ q o. subst (λ z. RangeOk lists (length w) q (m.range q).start z w (m.range q)) (same q) (b.ranges q o);
  shut = λ q o. subst (λ z. IsShut q z w) (same q) (b.shut q o);
  owned = b.owned;
}

module _ (lists : OneList AppliedState) where
  pub stands_fit : (w : World) (m : Ranges) (seen : ℕ → List raft.Event) → Stands lists w m seen → AreFit w
  stands_fit w m seen s = fit_all w seen s.wide (replica_below lists w m seen s.bound s.wide.ends s.small)

  pub stands_next : (w : World) (m : Ranges) (seen : ℕ → List raft.Event) → Stands lists w m seen → (x : Scene) → Lawful w x → StandsNext lists w m seen x
  stands_next w m seen s x lawful =
      let fit : AreFit w = stands_fit w m seen s in
      let t : SceneTurned lists w m seen x = scene_turned lists w m seen s.bound fit x lawful (scene_new lists w m seen s.bound x.node x.what (may_happen w x lawful.lawful).allowed) in
      let b : BoundNext lists w m seen x = bound_next lists w m seen s.bound x lawful t in
      record {
        ranges = b.ranges;
        onward = b.onward;
        stands = record {
          bound = b.bound;
          wide = scene_kept lists w m seen s.bound fit s.wide x lawful;
          small = small_next lists w m seen s.bound fit s.small x lawful t;
        };
      }

  stands_along : (w : World) (xs : Schedule) → AllLawful w xs → (m : Ranges) (seen : ℕ → List raft.Event) → Stands lists w m seen → StandsLater lists m seen (run w xs)
  stands_along w [] lawful m seen s = record {
    ranges = m;
    onward = onward_itself m;
    now_seen = seen;
    grown = λ range. ([], sym (append-nil (seen range)));
    stands = s;
  }
  stands_along w (x ∷ xs) lawful m seen s =
      let n = stands_next w m seen s x lawful.0 in
      let k = stands_along (happens w x) xs lawful.1 n.ranges (λ range. seen range ++ raft_events range w x) n.stands in
      record {
        ranges = k.ranges;
        onward = onward_further m n.ranges k.ranges n.onward k.onward;
        now_seen = k.now_seen;
        grown = λ range. (raft_events range w x ++ (k.grown range).0, (k.grown range).1 ∙ append_assoc (seen range) (raft_events range w x) (k.grown range).0);
        stands = k.stands;
      }

  pub stands_later : (w : World) (m : Ranges) (seen : ℕ → List raft.Event) → Stands lists w m seen → (later : World) → IsLater w later → StandsLater lists m seen later
  stands_later w m seen s later l = subst (StandsLater lists m seen) l.reached (stands_along w l.schedule l.lawful m seen s)

  handed_first : (nodes range : ℕ) (bytes : List ℕ) → Contains (payloads_of (first_seen nodes range)) bytes → ⊥
  handed_first nodes zero bytes c = none_handed (nodes_to nodes) bytes c
  handed_first nodes (suc range) bytes c = omega (arith, c.1)

  pub first_stands : (nodes : ℕ) → 0 < nodes → nodes ≤ 5 → IsStanding lists (first_world nodes)
  first_stands nodes some few = record {
    ranges = first_ranges lists nodes some few;
    seen = first_seen nodes;
    stands = record {
      bound = first_bound lists nodes some few;
      wide = first_wide nodes few (first_seen nodes) (handed_first nodes);
      small = first_small nodes few;
    };
  }

  above_zero : (k : ℕ) → IsTrue (nat_lt 0 k) → 0 < k
  above_zero k h = grind (arith, nat_tests)

  at_most_five : (k : ℕ) → IsTrue (nat_le k 5) → k ≤ 5
  at_most_five k h = grind (arith, nat_tests)

  pub reached_stands : (nodes : ℕ) (w : World) → IsReached nodes w → IsStanding lists w
  reached_stands nodes w r =
      let f = first_stands nodes (above_zero nodes r.some) (at_most_five nodes r.few) in
      let k = stands_along (first_world nodes) r.schedule r.lawful f.ranges f.seen f.stands in
      subst (IsStanding lists) r.reached (record { ranges = k.ranges; seen = k.now_seen; stands = k.stands })

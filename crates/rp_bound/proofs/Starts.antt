-- In the first world all numbers are 0.
use Rattle.std.proofs.Common.{◌≡◌, ℕ, zero, suc, ◌+◌, ◌≤◌, List, [], ◌∷◌, map, length, refl, sym, ap, subst, arith}
use Rattle.std.specs.Prelude.{Contains}
use Rattle.rp_raftstep.specs.RaftState.{nodes_to}
use Rattle.rp_raftsafe.specs.World as raft
use Rattle.rp_raftsafe.specs.Proposed.{payloads_of}
use Rattle.rp_events.specs.Nodes.{Node, seat, first_node}
use Rattle.rp_events.specs.Worlds.{World, first_world}
use Rattle.rp_seats.specs.Views.{read}
use Rattle.rp_seats.proofs.Opens.{first_is, first_length}
use Rattle.rp_bound.specs.Bounds.{first_seen}
use Rattle.rp_bound.specs.Numbers.{PayloadBelow, StatusBelow, items_in, waiting_in, events_of, NodeBelow, RangeBelow, AreSmall}
use Rattle.rp_bound.proofs.First.{all_absent}
use Rattle.rp_bound.proofs.Work.{sum_bounded}

pub none_handed : (xs : List ℕ) (bytes : List ℕ) → Contains (payloads_of (map (λ node. raft.Acts node raft.Begin) xs)) bytes → ⊥
none_handed [] bytes c = omega (arith, c.1)
none_handed (x ∷ xs) bytes c = none_handed xs bytes c

module _ (count : ℕ) (few : count ≤ 5) where
  abbrev w : World
  w = first_world count

  seat_is : (node q : ℕ) → StatusBelow 0 (events_of w) 40 0 (seat (first_node node count) q) × (items_in (seat (first_node node count) q) ≡ 0)
  seat_is node zero = (record { assigned = omega arith; pending = tt; few = omega arith; inbox = tt; asks = tt }, refl)
  seat_is node (suc q) = (subst (StatusBelow 0 (events_of w) 40 0) (sym (all_absent 7 q)) tt, ap items_in (all_absent 7 q))

  none_waits : (q : ℕ) → waiting_in q w ≤ 0
  none_waits q =
      let a = sum_bounded (λ (n : Node). items_in (seat n q)) 0 w
      (λ place n e. let same = first_is count few (suc place) n e in let z = (seat_is (suc place) q).1 in let k = ap (λ (y : Node). items_in (seat y q)) same in omega (arith, z, k)) in
      omega (arith, a)

  handed : (q : ℕ) (bytes : List ℕ) → Contains (payloads_of (first_seen count q)) bytes → PayloadBelow 0 (events_of w) (read bytes)
  handed zero bytes c = absurd (none_handed (nodes_to count) bytes c)
  handed (suc q) bytes c = absurd (omega (arith, c.1))

  range_first : (q : ℕ) → RangeBelow w q (first_seen count q) 0
  range_first q = record {
    room = (let a = none_waits q in omega (arith, a));
    seats = λ node n has. subst (λ (y : Node). StatusBelow 0 (events_of w) (y.ticks + 40) (length y.requests) (seat y q)) (sym (first_is count few node n has)) (seat_is node q).0;
    handed = handed q;
  }

  pub first_small : AreSmall w (first_seen count)
  first_small = record {
    few = (let e = first_length count few in omega (arith, e, few));
    nodes = λ node n has. subst (λ (y : Node). NodeBelow y) (sym (first_is count few node n has)) (record { requests = omega arith; ticks = omega arith; journal = omega arith });
    ranges = λ q. (0, range_first q);
  }

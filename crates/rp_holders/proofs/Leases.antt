-- Each lease that is applied is held by a node of the world.
use Rattle.std.proofs.Common.{◌≡◌, ℕ, Some, length, subst, ◌∙◌}
use Rattle.rp_request.specs.Applied.{AppliedState}
use Rattle.rp_raftsafe.proofs.Known.{one_list_holds}
use Rattle.rp_raftsafe.specs.Safety.{OneList}
use Rattle.rp_script.specs.Bounds.{IsNode}
use Rattle.rp_events.specs.Lawful.{IsReached}
use Rattle.rp_events.specs.Nodes.{Node, Live, seat}
use Rattle.rp_events.specs.Replicas.{Replica, lease_of}
use Rattle.rp_events.specs.Worlds.{World, first_world, node_of}
use Rattle.rp_journals.proofs.Growing.{run_grows}
use Rattle.rp_promise.proofs.Stands.{SeatStands, seat_stands}
use Rattle.rp_lawful.proofs.HomeStates.{HomeLease, holder_home, states_home}
use Rattle.rp_lawful.proofs.Playing.{first_size}
use Rattle.rp_lawful.proofs.Receivers.{HasHomes, reached_homes}

-- each replica shows a state of its range
leased : (lists : OneList AppliedState) (w : World) → HasHomes lists w → (node : ℕ) (n : Node) → node_of w node ≡ Some n → (range : ℕ) (r : Replica) → seat n range ≡ Live r → HomeLease (length w) r.applied.state
leased lists w h node n has range r live =
    let s : SeatStands h.ranges range node r = seat_stands lists w h.ranges h.seen h.stands.bound node n range r has live in
    subst (HomeLease (length w)) s.state
    (states_home (length w) h.some lists w h.ranges h.seen h.stands.bound h.handed range s.there
    (holder_home (length w) h.some lists w h.ranges h.seen h.stands.bound h.handed range s.there)
    ((h.ranges.range range).index node))

pub held_by_node : (nodes : ℕ) (w : World) → IsReached nodes w → (node : ℕ) (n : Node) → node_of w node ≡ Some n → (range : ℕ) (r : Replica) → seat n range ≡ Live r → IsNode nodes (lease_of r).holder
held_by_node nodes w reached node n has range r live =
    let size : length w ≡ nodes = subst (λ z. length z ≡ nodes) reached.reached ((run_grows reached.schedule (first_world nodes)).size ∙ first_size nodes) in
    subst (λ many. IsNode many (lease_of r).holder) size
    (leased (one_list_holds AppliedState) w (reached_homes nodes w reached (first_size nodes)) node n has range r live)

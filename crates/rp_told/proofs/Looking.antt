-- What is looked at of nodes and buffers, and what they weigh.
use Rattle.std.proofs.Common.{◌≡◌, ℕ, ◌+◌, ◌-◌, ◌<◌, Bool, true, false, cond, ltb, ltb-false, Option, Some, [], length, refl, sym, ap, ◌∙◌, arith, get_or-set_same, get_or-set_other}
use Rattle.std.specs.Prelude.{sum_by}
use Rattle.std.specs.Option.{option_map_or}
use Rattle.std.proofs.lemmas.List.Sums.{sum_by-append}
use Rattle.rp_bufcore.specs.Buffers.{Buffer, buffer_of, with_buffer, fresh}
use Rattle.rp_base.specs.declared.ids.CmdId.{CmdId}
use Rattle.rp_events.specs.Replicas.{Replica}
use Rattle.rp_events.specs.Nodes.{Node, Status, Absent, Live, Removed, seat}
use Rattle.rp_events.specs.NodeEvents.{step}
use Rattle.rp_events.specs.declared.node_events.Event.{Event}
use Rattle.rp_events.specs.declared.node_events.Event.TheVariants as events
use Rattle.rp_events.specs.declared.replica_events.ReplicaEvent.TheVariants as at_replica
use Rattle.rp_events.specs.ReplicaEvents.{event}
use Rattle.rp_request.specs.Applied.{AppliedState}
use Rattle.rp_events.specs.Worlds as worlds
use Rattle.rp_events.specs.Worlds.{World, Scene, Happening, node_of, with_node, sent_by, event_of, happens}
use Rattle.rp_events.specs.Lawful.{IsReached, is_lawful, happens_if}
use Rattle.rp_events.specs.Buffered.{Buffered, buffers_at, changed, at_node, is_live, has_live}
use Rattle.rp_journals.proofs.Asking.{sum_with}
use Rattle.rp_book.specs.declared.bookings.Booked.{Booked}
use Rattle.rp_lines.specs.Players.{Player, weight_of, weight}
use Rattle.rp_lines.specs.Commands.{waits_in, is_waiting}
use Rattle.rp_lines.specs.Settling.{left_to_apply, left_at}
use Rattle.rp_told.specs.Turns.{Turns, behind}
use Rattle.rp_told.proofs.Turning.{turned, turn_grows, front_and_behind}
use Rattle.rp_told.proofs.Applying.{Applies, taken_by, seat_after, seat_absent, seat_removed, applied_once}

-- a seat of a node that the world has
pub live_here : (w : World) (node : ℕ) (n : Node) → node_of w node ≡ Some n → (range : ℕ) → has_live w node range ≡ is_live (seat n range)
live_here w node n has range = ap (λ o. option_map_or (λ (k : Node). is_live (seat k range)) o false) has

pub waiting_here : (w : World) (b : Booked) (n : Node) → node_of w b.node ≡ Some n → (id : CmdId) → is_waiting w id b ≡ waits_in id (seat n b.range)
waiting_here w b n has id = ap (λ o. option_map_or (λ (k : Node). waits_in id (seat k b.range)) o false) has

pub left_here : (p : Player) (node : ℕ) (n : Node) → node_of p.world.nodes node ≡ Some n → (range : ℕ) → left_at p node range ≡ left_to_apply (seat n range)
left_here p node n has range = ap (λ o. option_map_or (λ (k : Node). left_to_apply (seat k range)) o 0) has

pub sent_here : (w : World) (node : ℕ) (n : Node) → node_of w node ≡ Some n → sent_by w node ≡ n.sent
sent_here w node n has = ap (λ o. option_map_or (λ (k : Node). k.sent) o []) has

-- nodes and buffers apart
pub skipped : (b : Buffered) (node : ℕ) (what : Happening) → is_lawful b.nodes (record { node = node; what = what }) ≡ false → at_node b node what ≡ b
skipped b node what e = ap (λ t. record b { nodes = happens_if t b.nodes (record { node = node; what = what }) }) e

pub taken : (b : Buffered) (node : ℕ) (what : Happening) → is_lawful b.nodes (record { node = node; what = what }) ≡ true
    → (at_node b node what).nodes ≡ happens b.nodes (record { node = node; what = what })
taken b node what e = ap (λ t. happens_if t b.nodes (record { node = node; what = what })) e

pub other_buffers : (b : Buffered) (node range : ℕ) (change : Buffer → Buffer) (k : ℕ) → 0 < node → 0 < k → (k ≡ node → ⊥) → buffers_at (changed b node range change) k ≡ buffers_at b k
other_buffers b node range change k some some' ne =
    get_or-set_other b.buffers (node - 1) (k - 1) _ fresh (λ (e : k - 1 ≡ node - 1). ne (omega (arith, e, some, some')))

pub these_buffers : (b : Buffered) (node range : ℕ) (change : Buffer → Buffer) → node - 1 < length b.buffers
    → buffers_at (changed b node range change) node ≡ with_buffer (buffers_at b node) range (change (buffer_of (buffers_at b node) range))
these_buffers b node range change inside = get_or-set_same b.buffers (node - 1) _ fresh inside

-- what a node has sent more weighs more
pub weight_now : (w : World) (x : Scene) (n now : Node) → Turns w x n now → weight (happens w x) ≡ weight w + sum_by weight_of (behind n.sent now.sent)
weight_now w x n now t =
    let load : Node → ℕ = λ m. sum_by weight_of m.sent in
    let left : weight (happens w x) ≡ sum_by load (with_node w x.node now) = ap weight (turned w x n now t).left in
    let sums = sum_with load w x.node n now t.has in
    let more : load now ≡ load n + sum_by weight_of (behind n.sent now.sent) =
    ap (sum_by weight_of) (front_and_behind n.sent now.sent (turn_grows w x n now t).sent) ∙ sum_by-append weight_of n.sent (behind n.sent now.sent) in
    omega (arith, left, sums, more)

-- one fewer is left behind each application
fewer : (r s : Replica) → Applies r s (taken_by r) → left_to_apply (Live s) ≡ left_to_apply (Live r) - 1
fewer r s a =
    let raft : s.raft.head.commit ≡ r.raft.head.commit = ap (λ z. z.head.commit) a.raft in
    let index = a.index in
    by_test (ltb r.applied.index r.raft.head.commit) refl raft index
  where
    by_test : (b : Bool) → ltb r.applied.index r.raft.head.commit ≡ b → s.raft.head.commit ≡ r.raft.head.commit → s.applied.index ≡ r.applied.index + cond b 1 0
        → s.raft.head.commit - s.applied.index ≡ r.raft.head.commit - r.applied.index - 1
    by_test true under raft index = omega (arith, raft, index)
    by_test false over raft index = let past = ltb-false r.applied.index r.raft.head.commit over in omega (arith, raft, index, past)

pub left_fewer : (nodes : ℕ) (w : World) → IsReached nodes w → (node range : ℕ) (n now : Node) → Turns w (record { node = node; what = worlds.Apply range }) n now
    → left_to_apply (seat now range) ≡ left_to_apply (seat n range) - 1
left_fewer nodes w r node range n now t =
    ap (λ (z : Node). left_to_apply (seat z range)) ((turned w x n now t).is ∙ ap (λ e. (step n e []).node) event_is) ∙ by_seat (seat n range) refl
  where
    x : Scene
    x = record { node = node; what = worlds.Apply range }

    some_event : (a b : Event AppliedState) → ◌≡◌ {A = Option (Event AppliedState)} (Some a) (Some b) → a ≡ b
    some_event a b e = cc

    event_is : (turned w x n now t).event ≡ events.Apply range
    event_is = sym (some_event (events.Apply range) (turned w x n now t).event (turned w x n now t).came)

    by_seat : (s : Status) → seat n range ≡ s → left_to_apply (seat (step n (events.Apply range) []).node range) ≡ left_to_apply (seat n range) - 1
    by_seat (Live replica) is =
        ap left_to_apply (seat_after n range replica is)
        ∙ fewer replica (event replica at_replica.Apply n.ticks n.rounds []).replica (applied_once nodes w r node range n replica t.has is)
        ∙ sym (ap (λ s. left_to_apply s - 1) is)
    by_seat Absent is = ap left_to_apply (seat_absent n range is) ∙ sym (ap (λ s. left_to_apply s - 1) is)
    by_seat (Removed applied) is = ap left_to_apply (seat_removed n range applied is) ∙ sym (ap (λ s. left_to_apply s - 1) is)

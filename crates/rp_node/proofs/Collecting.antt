-- What the buffer end gave a collect stands in its plan, and the plan does the collect.
use Rattle.std.proofs.Common.{◌≡◌, ℕ, List, ◌∷◌, [], ◌++◌, Option, None, Some, refl, sym, ap, subst, ◌∙◌}
use Rattle.rp_base.specs.Kept.{Kept}
use Rattle.rp_base.specs.declared.items.Item.{Item}
use Rattle.rp_replica.specs.declared.plans.ReplicaPlan.{ReplicaPlan}
use Rattle.rp_events.specs.declared.answers.EventAnswer.{EventAnswer}
use Rattle.rp_events.specs.declared.node_events.Event.TheVariants as events
use Rattle.rp_events.specs.declared.journals.PastEvent.TheVariants as past
use Rattle.rp_events.specs.declared.replica_events.ReplicaEvent.TheVariants as at_replica
use Rattle.rp_events.specs.Nodes.{Node, NodeDone, Status, seat, written}
use Rattle.rp_events.specs.NodeEvents.{by_status, by_replica}
use Rattle.rp_node.specs.declared.cores.Core.{Core}
use Rattle.rp_node.specs.declared.logs.Logs.{Logs}
use Rattle.rp_node.specs.declared.seats.Seat.{Seat}
use Rattle.rp_node.specs.declared.seats.Seat.TheVariants as seats
use Rattle.rp_node.specs.Asked.{Asked, filled}
use Rattle.rp_node.specs.Cores.{status_of, seat_in, node_of}
use Rattle.rp_node.specs.Plans.{SeatReady, turned, answered, idle_answer}
use Rattle.rp_node.specs.Steps.{Collected, Steps}
use Rattle.rp_node.proofs.Idling.{empty_collect}
use Rattle.rp_node.proofs.Stepping.{seat_at}
use Rattle.rp_node.proofs.Turning.{written_node}

none_left : (p : ReplicaPlan) → ◌≡◌ {A = Option ReplicaPlan} (Some p) None → ⊥
none_left p e = cc

-- it does the collect
filled_turn : (n : Node) (range : ℕ) (s : Seat) (p : Option ReplicaPlan) (taken : Kept Item) → SeatReady s at_replica.Collect n.ticks n.rounds p → turned n range (filled p taken) s ≡ by_status n range at_replica.Collect taken.list (status_of s)
filled_turn n range seats.Absent p taken ready = refl
filled_turn n range (seats.Live held) None taken ready = absurd ready
filled_turn n range (seats.Live held) (Some p) taken ready = refl
filled_turn n range (seats.Removed kept) p taken ready = refl

-- a seat as the node's definitions see it
by_seat : (c : Core) (range : ℕ) (taken : List Item) → by_status (node_of c) range at_replica.Collect taken (status_of (seat_in c.seats range)) ≡ by_replica (node_of c) range at_replica.Collect taken
by_seat c range taken = ap (λ (s : Status). by_status (node_of c) range at_replica.Collect taken s) (sym (seat_at c.seats range))

-- a collect that was given nothing, written down
pub nothing_taken : (c : Core) (logs : Logs) (range : ℕ) (p : Option ReplicaPlan) (taken : List Item) (answer : EventAnswer) → SeatReady (seat_in c.seats range) at_replica.Collect c.ticks c.rounds p → taken ≡ [] → answer ≡ idle_answer p → logs.journal.list ≡ c.logs.journal.list ++ record { event = past.Collect range taken; answer = answer } ∷ [] → logs.sent ≡ c.logs.sent → logs.outcomes ≡ c.logs.outcomes → logs.requests ≡ c.logs.requests → answered (node_of (record c { logs = logs })) answer ≡ written (past.Collect range []) (by_replica (node_of c) range at_replica.Collect [])
nothing_taken c logs range p taken answer ready none is journal sent outcomes requests =
    written_node c logs (past.Collect range taken) answer journal sent outcomes requests
    ∙ ap (λ (l : List Item). written (past.Collect range l) (answered (node_of c) answer)) none
    ∙ ap (λ (a : EventAnswer). written (past.Collect range []) (answered (node_of c) a)) is
    ∙ ap (λ (d : NodeDone). written (past.Collect range []) d) (
    empty_collect (node_of c) range p (seat_in c.seats range) (seat_at c.seats range) ready
    ∙ by_seat c range [])

-- a collect that was filled and committed, written down
pub something_taken : (c after : Core) (logs : Logs) (range : ℕ) (p q : Option ReplicaPlan) (items : Kept Item) (taken : List Item) (answer : EventAnswer) → SeatReady (seat_in c.seats range) at_replica.Collect c.ticks c.rounds p → q ≡ filled p items → taken ≡ items.list → answered (node_of after) answer ≡ turned (node_of c) range q (seat_in c.seats range) → logs.journal.list ≡ after.logs.journal.list ++ record { event = past.Collect range taken; answer = answer } ∷ [] → logs.sent ≡ after.logs.sent → logs.outcomes ≡ after.logs.outcomes → logs.requests ≡ after.logs.requests → answered (node_of (record after { logs = logs })) answer ≡ written (past.Collect range items.list) (by_replica (node_of c) range at_replica.Collect items.list)
something_taken c after logs range p q items taken answer ready fills is turn journal sent outcomes requests =
    written_node after logs (past.Collect range taken) answer journal sent outcomes requests
    ∙ ap (λ (l : List Item). written (past.Collect range l) (answered (node_of after) answer)) is
    ∙ ap (λ (d : NodeDone). written (past.Collect range items.list) d) (
    turn
    ∙ ap (λ (x : Option ReplicaPlan). turned (node_of c) range x (seat_in c.seats range)) fills
    ∙ filled_turn (node_of c) range (seat_in c.seats range) p items ready
    ∙ by_seat c range items.list)

-- the end was asked where a live replica stands
asked_gave : {B : Type 0} (gives : B → ℕ → List Item → B → Type 0) (s : Seat) (ticks rounds range : ℕ) (p : Option ReplicaPlan) (old new : B) (taken : List Item) → SeatReady s at_replica.Collect ticks rounds p → Asked gives p old range taken new → Collected gives (status_of s) old range taken new
asked_gave gives seats.Absent ticks rounds range None old new taken ready gave = gave
asked_gave gives seats.Absent ticks rounds range (Some p) old new taken ready gave = absurd (none_left p ready)
asked_gave gives (seats.Live held) ticks rounds range None old new taken ready gave = absurd ready
asked_gave gives (seats.Live held) ticks rounds range (Some p) old new taken ready gave = gave
asked_gave gives (seats.Removed kept) ticks rounds range None old new taken ready gave = gave
asked_gave gives (seats.Removed kept) ticks rounds range (Some p) old new taken ready gave = absurd (none_left p ready)

-- a collect that was prepared, asked for and taken is the node's collect of what was given
pub collect_steps : {B : Type 0} (gives : B → ℕ → List Item → B → Type 0) (n : Node) (prepared after : Core) (range : ℕ) (p : Option ReplicaPlan) (old new : B) (taken : List Item) (answer : EventAnswer) → node_of prepared ≡ n → SeatReady (seat_in prepared.seats range) at_replica.Collect prepared.ticks prepared.rounds p → Asked gives p old range taken new → answered (node_of after) answer ≡ written (past.Collect range taken) (by_replica (node_of prepared) range at_replica.Collect taken) → Steps gives (record { node = n; end = old }) (events.Collect range) (record { node = node_of after; end = new }) answer
collect_steps gives n prepared after range p old new taken answer same ready asked does = record {
  taken = taken;
  gave = subst (λ (s : Status). Collected gives s old range taken new) here
      (asked_gave gives (seat_in prepared.seats range) prepared.ticks prepared.rounds range p old new taken ready asked);
  does = sym (does ∙ ap (λ (m : Node). written (past.Collect range taken) (by_replica m range at_replica.Collect taken)) same);
}
  where
    here : status_of (seat_in prepared.seats range) ≡ seat n range
    here = sym (seat_at prepared.seats range) ∙ ap (λ (m : Node). seat m range) same

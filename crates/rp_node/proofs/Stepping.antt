-- Each event of a node is the definition's.
use Rattle.std.proofs.Common.{◌≡◌, ◌<◌, ℕ, zero, suc, ◌+◌, max, List, ◌∷◌, [], ◌++◌, length, map, slice_index_or, slice_set, Option, None, Some, refl, sym, ap, subst, ◌∙◌}
use Rattle.std.proofs.Math.ListN.{get_or-map}
use Rattle.std.proofs.lemmas.List.{set-get_or, get_or-set_same, length-map}
use Rattle.rp_request.specs.Applied.{AppliedState}
use Rattle.rp_request.specs.declared.requests.Request.{Request}
use Rattle.rp_base.specs.declared.ids.CmdId.{CmdId}
use Rattle.rp_request.specs.declared.outcomes.Refusal.TheVariants.{NoReplica}
use Rattle.rp_events.specs.Replicas.{Done}
use Rattle.rp_events.specs.ReplicaEvents.{event}
use Rattle.rp_events.specs.declared.answers.EventAnswer.{EventAnswer}
use Rattle.rp_events.specs.declared.answers.EventAnswer.TheVariants as answers
use Rattle.rp_events.specs.declared.journals.PastEvent.{PastEvent}
use Rattle.rp_events.specs.declared.journals.PastEvent.TheVariants as past
use Rattle.rp_events.specs.declared.replica_events.ReplicaEvent.{ReplicaEvent}
use Rattle.rp_events.specs.declared.replica_events.ReplicaEvent.TheVariants as at_replica
use Rattle.rp_events.specs.Nodes.{Node, NodeDone, Status, Absent, Live, Removed, seat, with_seat, longest_wait, written}
use Rattle.rp_events.specs.NodeEvents.{by_status, by_replica, with_request, done, rounded}
use Rattle.rp_replica.specs.Plans.{Left, left_of, planned, right_in}
use Rattle.rp_replica.specs.declared.plans.ReplicaPlan.{ReplicaPlan}
use Rattle.rp_node.specs.declared.cores.Core.{Core}
use Rattle.rp_node.specs.declared.logs.Logs.{Logs}
use Rattle.rp_node.specs.declared.seats.Seat.{Seat}
use Rattle.rp_node.specs.declared.seats.Seat.TheVariants as seats
use Rattle.rp_node.specs.Cores.{status_of, seat_in, node_of, AreAlike}
use Rattle.rp_node.specs.Plans.{SeatReady, StaysLive, with_left, turned_by, turned, taken_down, taken_down_in, answered}
use Rattle.rp_node.proofs.Turning.{ready_turn, written_node}

-- a seat as the node's definitions see it, also past the last one
pub seat_at : (xs : List Seat) (i : ℕ) → slice_index_or (map status_of xs) i Absent ≡ status_of (seat_in xs i)
seat_at xs i = get_or-map status_of xs i seats.Absent

-- the event that was prepared happened
pub happened : (n : Node) (prepared after : Core) (logs : Logs) (range : ℕ) (e : ReplicaEvent AppliedState) (p : Option ReplicaPlan) (past : PastEvent) (answer : EventAnswer) → node_of prepared ≡ n → SeatReady (seat_in prepared.seats range) e prepared.ticks prepared.rounds p → StaysLive e → answered (node_of after) answer ≡ turned (node_of prepared) range p (seat_in prepared.seats range) → logs.journal.list ≡ after.logs.journal.list ++ record { event = past; answer = answer } ∷ [] → logs.sent ≡ after.logs.sent → logs.outcomes ≡ after.logs.outcomes → logs.requests ≡ after.logs.requests → answered (node_of (record after { logs = logs })) answer ≡ written past (by_replica n range e [])
happened n prepared after logs range e p past answer same ready live turn journal sent outcomes requests =
    written_node after logs past answer journal sent outcomes requests
    ∙ ap (λ (d : NodeDone). written past d) (
    turn
    ∙ ready_turn (node_of prepared) range e p (seat_in prepared.seats range) ready live
    ∙ ap (λ (s : Status). by_status (node_of prepared) range e [] s) (sym (seat_at prepared.seats range))
    ∙ ap (λ (m : Node). by_replica m range e []) same)

-- a request joins the list
pub asked_node : (c : Core) (logs : Logs) (request : Request) → logs.requests.list ≡ c.logs.requests.list ++ request ∷ [] → logs.sent ≡ c.logs.sent → logs.journal ≡ c.logs.journal → logs.outcomes ≡ c.logs.outcomes → node_of (record c { logs = logs }) ≡ with_request (node_of c) request
asked_node c logs request list sent journal outcomes = rw (list, sent, journal, outcomes) refl

-- its place in it
pub same_place : (n m : Node) (k range : ℕ) (id : CmdId) (d : NodeDone) → k ≡ length n.requests → n ≡ m → written (past.Admit range id k) d ≡ written (past.Admit range id (length m.requests)) d
same_place n m k range id d at same = ap (λ (x : ℕ). written (past.Admit range id x) d) (at ∙ ap (λ (x : Node). length x.requests) same)

-- what stays in a seat
same_seat : (n : Node) (range : ℕ) (s : Status) → seat n range ≡ s → taken_down s ≡ s → taken_down_in n range ≡ n
same_seat n range s here stays =
    ap (λ (t : Status). with_seat n range t) (ap taken_down here ∙ stays ∙ sym here)
    ∙ ap (λ (l : List Status). record n { seats = l }) (set-get_or n.seats range Absent)

set_again : {A : Type 0} (xs : List A) (i : ℕ) (a b : A) → slice_set (slice_set xs i a) i b ≡ slice_set xs i b
set_again [] i a b = refl
set_again (x ∷ xs) zero a b = refl
set_again (x ∷ xs) (suc i) a b = ap (λ l. x ∷ l) (set_again xs i a b)

-- a replica that was committed is taken down
left_down : (n : Node) (range : ℕ) (l : Left) → range < length n.seats → taken_down_in (with_left n range (Live l.replica) l) range ≡ with_left n range (Removed l.replica.applied) l
left_down n range l within =
    ap (λ (t : Status). with_seat (with_left n range (Live l.replica) l) range (taken_down t)) (get_or-set_same n.seats range (Live l.replica) Absent within)
    ∙ ap (λ (x : List Status). record (with_left n range (Live l.replica) l) { seats = x }) (set_again n.seats range (Live l.replica) (Removed l.replica.applied))

plan_down : (n : Node) (range : ℕ) (l : Left) (right : Option AppliedState) (d : Done) → range < length n.seats → l ≡ left_of d → right ≡ None → answered (taken_down_in (turned_by n range l right).node range) (turned_by n range l right).answer ≡ answered (with_left n range (Removed d.replica.applied) (left_of d)) d.answer
plan_down n range l right d within does none =
    ap (λ (x : Left). answered (taken_down_in (turned_by n range x right).node range) (turned_by n range x right).answer) does
    ∙ ap (λ (x : Option AppliedState). answered (taken_down_in (turned_by n range (left_of d) x).node range) d.answer) none
    ∙ ap (λ (m : Node). answered m d.answer) (left_down n range (left_of d) within)

pub down_turn : (n : Node) (range : ℕ) (p : Option ReplicaPlan) (s : Seat) → range < length n.seats → seat n range ≡ status_of s → SeatReady s at_replica.Remove n.ticks n.rounds p → answered (taken_down_in (turned n range p s).node range) (turned n range p s).answer ≡ by_status n range at_replica.Remove [] (status_of s)
down_turn n range p seats.Absent within here ready = ap (λ (m : Node). answered m (answers.Refused NoReplica)) (same_seat n range Absent here refl)
down_turn n range None (seats.Live held) within here ready = absurd ready
down_turn n range (Some p) (seats.Live held) within here ready =
    plan_down n range (planned held.replica p) (right_in p) (event held.replica at_replica.Remove n.ticks n.rounds []) within
    ready.plan.makes.does ready.plan.right
down_turn n range p (seats.Removed kept) within here ready = ap (λ (m : Node). answered m (answers.Refused NoReplica)) (same_seat n range (Removed kept.history) here refl)

pub removed_node : (n : Node) (prepared turnt after : Core) (logs : Logs) (range : ℕ) (p : Option ReplicaPlan) (answer : EventAnswer) → range < length prepared.seats → node_of prepared ≡ n → SeatReady (seat_in prepared.seats range) at_replica.Remove prepared.ticks prepared.rounds p → answered (node_of turnt) answer ≡ turned (node_of prepared) range p (seat_in prepared.seats range) → node_of after ≡ taken_down_in (node_of turnt) range → logs.journal.list ≡ after.logs.journal.list ++ record { event = past.Remove range; answer = answer } ∷ [] → logs.sent ≡ after.logs.sent → logs.outcomes ≡ after.logs.outcomes → logs.requests ≡ after.logs.requests → answered (node_of (record after { logs = logs })) answer ≡ written (past.Remove range) (by_replica n range at_replica.Remove [])
removed_node n prepared turnt after logs range p answer within same ready turn down journal sent outcomes requests =
    written_node after logs (past.Remove range) answer journal sent outcomes requests
    ∙ ap (λ (d : NodeDone). written (past.Remove range) d) (
    ap (λ (m : Node). answered m answer) down
    ∙ ap (λ (d : NodeDone). answered (taken_down_in d.node range) d.answer) turn
    ∙ down_turn (node_of prepared) range p (seat_in prepared.seats range) (subst (λ (k : ℕ). range < k) (sym (length-map prepared.seats status_of)) within) (seat_at prepared.seats range) ready
    ∙ ap (λ (s : Status). by_status (node_of prepared) range at_replica.Remove [] s) (sym (seat_at prepared.seats range))
    ∙ ap (λ (m : Node). by_replica m range at_replica.Remove []) same)

-- a round more
pub round_node : (c : Core) (room logs : Logs) (rounds waited sent : ℕ) → AreAlike c.logs room → rounds ≡ c.rounds + 1 → waited ≡ max c.waited (longest_wait (c.rounds + 1) (map status_of c.seats)) → sent ≡ length c.logs.sent.list → logs.journal.list ≡ room.journal.list ++ record { event = past.Round sent; answer = answers.Done } ∷ [] → logs.sent ≡ room.sent → logs.outcomes ≡ room.outcomes → logs.requests ≡ room.requests → answered (node_of (record c { rounds = rounds; waited = waited; logs = logs })) answers.Done ≡ written (past.Round (length c.logs.sent.list)) (done (rounded (node_of c)))
round_node c room logs rounds waited sent a round wait many journal sent_same outcomes requests =
    rw (journal, sent_same, outcomes, requests, many, a.journal, a.sent, a.outcomes, a.requests, round, wait) refl

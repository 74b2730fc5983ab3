-- What a committed plan leaves of a node is what the event leaves.
use Rattle.std.proofs.Common.{◌≡◌, ◌<◌, ◌≤◌, ℕ, List, ◌∷◌, [], ◌++◌, length, get_or, slice_set, Option, None, Some, refl, sym, ap, subst, ◌∙◌}
use Rattle.rp_request.specs.Applied.{AppliedState}
use Rattle.rp_request.specs.declared.outcomes.Refusal.TheVariants.{NoReplica}
use Rattle.rp_events.specs.Replicas as replicas
use Rattle.rp_events.specs.Replicas.{Done}
use Rattle.rp_events.specs.ReplicaEvents.{event}
use Rattle.rp_events.specs.declared.answers.Effects.{Effects}
use Rattle.rp_events.specs.declared.answers.EventAnswer.{EventAnswer}
use Rattle.rp_events.specs.declared.answers.EventAnswer.TheVariants as answers
use Rattle.rp_events.specs.declared.journals.PastEvent.{PastEvent}
use Rattle.rp_events.specs.declared.replica_events.ReplicaEvent.{ReplicaEvent}
use Rattle.rp_events.specs.declared.replica_events.ReplicaEvent.TheVariants as at_replica
use Rattle.rp_events.specs.Nodes.{Node, Status, Live, with_seat, after_turn, parcels, opened, written}
use Rattle.rp_events.specs.NodeEvents.{status_after, after_replica, by_status}
use Rattle.rp_replica.specs.Plans.{Left, left_of, planned, right_in}
use Rattle.rp_replica.specs.declared.plans.ReplicaPlan.{ReplicaPlan}
use Rattle.rp_node.specs.declared.cores.Core.{Core}
use Rattle.rp_node.specs.declared.logs.Logs.{Logs}
use Rattle.rp_node.specs.declared.seats.Seat.{Seat}
use Rattle.rp_node.specs.declared.seats.Seat.TheVariants as seats
use Rattle.rp_node.specs.Cores.{status_of, seat_in, node_of}
use Rattle.rp_node.specs.Plans.{SeatReady, TurnReady, StaysLive, turned_by, turned, refused, handed_out, status_by, effects_by, answered}
use Rattle.rp_node.proofs.Seating.{kept_node, seat_is, with_status}

pub some_same : (a b : Effects AppliedState) → ◌≡◌ {A = Option (Effects AppliedState)} (Some a) (Some b) → a ≡ b
some_same a b e = cc

-- without a replica a plan does nothing
quiet_status : (s : Seat) (p : ReplicaPlan) → None ≡ effects_by s p → status_by s p ≡ status_of s
quiet_status seats.Absent p e = refl
quiet_status (seats.Live held) p e = absurd cc
quiet_status (seats.Removed kept) p e = refl

quiet_turn : (n : Node) (range : ℕ) (s : Seat) (p q : ReplicaPlan) → None ≡ effects_by s q → refused n ≡ turned n range (Some p) s
quiet_turn n range seats.Absent p q e = refl
quiet_turn n range (seats.Live held) p q e = absurd cc
quiet_turn n range (seats.Removed kept) p q e = refl

pub nothing_turned : (c : Core) (range i : ℕ) (old new : Seat) (p q : ReplicaPlan) (o : Option ReplicaPlan) → i ≡ range → o ≡ Some p → i < length c.seats → old ≡ get_or c.seats i old → status_of new ≡ status_by old q → None ≡ effects_by old q → answered (node_of (record c { seats = slice_set c.seats i new })) (answers.Refused NoReplica) ≡ turned (node_of c) range o (seat_in c.seats range)
nothing_turned c range i old new p q o at some within is same none =
    ap refused (kept_node c i old new is (same ∙ quiet_status old q none))
    ∙ quiet_turn (node_of c) i old p q none
    ∙ ap (λ (s : Seat). turned (node_of c) i (Some p) s) (sym (seat_is c.seats i old within is))
    ∙ ap (λ (k : ℕ). turned (node_of c) k (Some p) (seat_in c.seats k)) at
    ∙ ap (λ (x : Option ReplicaPlan). turned (node_of c) range x (seat_in c.seats range)) (sym some)

-- no plan, no turn
none_turns : (n : Node) (range : ℕ) (s : Seat) → refused n ≡ turned n range None s
none_turns n range seats.Absent = refl
none_turns n range (seats.Live held) = refl
none_turns n range (seats.Removed kept) = refl

pub none_turned : (c : Core) (range : ℕ) → answered (node_of c) (answers.Refused NoReplica) ≡ turned (node_of c) range None (seat_in c.seats range)
none_turned c range = none_turns (node_of c) range (seat_in c.seats range)

-- what is handed out has room
out_fits : (s : Seat) (p q : ReplicaPlan) (e : Effects AppliedState) (logs : Logs) → TurnReady s (Some p) logs.sent.spare logs.outcomes.spare → Some e ≡ effects_by s q → ((r : replicas.Replica) → planned r q ≡ planned r p) → (length e.messages ≤ logs.sent.spare) × (length e.outcomes ≤ logs.outcomes.spare)
out_fits seats.Absent p q e logs ready out does = absurd cc
out_fits (seats.Live held) p q e logs ready out does = (
  subst (λ (k : ℕ). k ≤ logs.sent.spare) (sym (ap (λ (x : Effects AppliedState). length x.messages) is)) ready.sends_fit,
  subst (λ (k : ℕ). k ≤ logs.outcomes.spare) (sym (ap (λ (x : Effects AppliedState). length x.outcomes) is)) ready.ends_fit,
)
  where
    is : e ≡ handed_out (planned held.replica p)
    is = some_same e (handed_out (planned held.replica q)) out ∙ ap handed_out (does held.replica)
out_fits (seats.Removed kept) p q e logs ready out does = absurd cc

pub hands_fit : (xs : List Seat) (range i : ℕ) (old : Seat) (p q : ReplicaPlan) (o : Option ReplicaPlan) (e : Effects AppliedState) (logs : Logs) → i ≡ range → o ≡ Some p → i < length xs → old ≡ get_or xs i old → TurnReady (seat_in xs range) o logs.sent.spare logs.outcomes.spare → Some e ≡ effects_by old q → ((r : replicas.Replica) → planned r q ≡ planned r p) → (length e.messages ≤ logs.sent.spare) × (length e.outcomes ≤ logs.outcomes.spare)
hands_fit xs range i old p q o e logs at some within is ready out does =
    out_fits old p q e logs
    (subst (λ (s : Seat). TurnReady s (Some p) logs.sent.spare logs.outcomes.spare) (seat_is xs i old within is)
    (subst (λ (k : ℕ). TurnReady (seat_in xs k) (Some p) logs.sent.spare logs.outcomes.spare) (sym at)
    (subst (λ (x : Option ReplicaPlan). TurnReady (seat_in xs range) x logs.sent.spare logs.outcomes.spare) some ready)))
    out does

-- the lists once a plan's messages and outcomes are kept
pub record AreKept (range : ℕ) (e : Effects AppliedState) (old new : Logs) : Type 0 where
  pub sent : new.sent.list ≡ old.sent.list ++ parcels range e.messages
  pub outcomes : new.outcomes.list ≡ old.outcomes.list ++ e.outcomes
  pub journal : new.journal ≡ old.journal
  pub requests : new.requests ≡ old.requests

abbrev with_effects : Node → (range : ℕ) → Status → Effects AppliedState → Node
with_effects n range status e = record (with_seat n range status) {
  sent = n.sent ++ parcels range e.messages;
  outcomes = n.outcomes ++ e.outcomes;
}

kept_effects : (c : Core) (range : ℕ) (new : Seat) (e : Effects AppliedState) (logs : Logs) → AreKept range e c.logs logs → node_of (record c { seats = slice_set c.seats range new; logs = logs }) ≡ with_effects (node_of c) range (status_of new) e
kept_effects c range new e logs k =
    rw (k.sent, k.outcomes, k.journal, k.requests)
    (ap (λ (n : Node). record n { sent = c.logs.sent.list ++ parcels range e.messages; outcomes = c.logs.outcomes.list ++ e.outcomes }) (with_status c range new))

same_turn : (n : Node) (range : ℕ) (l : Left) (right : Option AppliedState) (e : Effects AppliedState) (status : Status) → e ≡ handed_out l → status ≡ Live l.replica → answered (opened (with_effects n range status e) right) e.answer ≡ turned_by n range l right
same_turn n range l right e status out is = rw (out, is) refl

live_turn : (n : Node) (range : ℕ) (s : Seat) (p q : ReplicaPlan) (right : Option AppliedState) (e : Effects AppliedState) (status : Status) → Some e ≡ effects_by s q → status ≡ status_by s q → ((r : replicas.Replica) → planned r q ≡ planned r p) → right ≡ right_in p → answered (opened (with_effects n range status e) right) e.answer ≡ turned n range (Some p) s
live_turn n range seats.Absent p q right e status out is does starts = absurd cc
live_turn n range (seats.Live held) p q right e status out is does starts =
    same_turn n range (planned held.replica p) right e status
    (some_same e (handed_out (planned held.replica q)) out ∙ ap handed_out (does held.replica))
    (is ∙ ap (λ (l : Left). Live l.replica) (does held.replica))
    ∙ ap (λ (r : Option AppliedState). turned_by n range (planned held.replica p) r) starts
live_turn n range (seats.Removed kept) p q right e status out is does starts = absurd cc

turn_here : (c : Core) (i : ℕ) (old new : Seat) (p q : ReplicaPlan) (right : Option AppliedState) (e : Effects AppliedState) (logs : Logs) → i < length c.seats → old ≡ get_or c.seats i old → status_of new ≡ status_by old q → Some e ≡ effects_by old q → ((r : replicas.Replica) → planned r q ≡ planned r p) → right ≡ right_in p → AreKept i e c.logs logs → answered (opened (node_of (record c { seats = slice_set c.seats i new; logs = logs })) right) e.answer ≡ turned (node_of c) i (Some p) (seat_in c.seats i)
turn_here c i old new p q right e logs within is same out does starts kept =
    ap (λ (n : Node). answered (opened n right) e.answer) (kept_effects c i new e logs kept)
    ∙ live_turn (node_of c) i old p q right e (status_of new) out same does starts
    ∙ ap (λ (s : Seat). turned (node_of c) i (Some p) s) (sym (seat_is c.seats i old within is))

pub turn_done : (c : Core) (range i : ℕ) (old new : Seat) (p q : ReplicaPlan) (o : Option ReplicaPlan) (right : Option AppliedState) (e : Effects AppliedState) (logs : Logs) → i ≡ range → o ≡ Some p → i < length c.seats → old ≡ get_or c.seats i old → status_of new ≡ status_by old q → Some e ≡ effects_by old q → ((r : replicas.Replica) → planned r q ≡ planned r p) → right ≡ right_in p → AreKept range e c.logs logs → answered (opened (node_of (record c { seats = slice_set c.seats i new; logs = logs })) right) e.answer ≡ turned (node_of c) range o (seat_in c.seats range)
turn_done c range i old new p q o right e logs at some within is same out does starts kept =
    turn_here c i old new p q right e logs within is same out does starts (subst (λ (k : ℕ). AreKept k e c.logs logs) (sym at) kept)
    ∙ ap (λ (k : ℕ). turned (node_of c) k (Some p) (seat_in c.seats k)) at
    ∙ ap (λ (x : Option ReplicaPlan). turned (node_of c) range x (seat_in c.seats range)) (sym some)

-- the plan of an event does the event
stays : (e : ReplicaEvent AppliedState) (r : replicas.Replica) → StaysLive e → status_after e r ≡ Live r
stays (at_replica.Admit id request) r s = refl
stays at_replica.Ask r s = refl
stays (at_replica.Transfer to) r s = refl
stays at_replica.Collect r s = refl
stays at_replica.Flush r s = refl
stays at_replica.Tick r s = refl
stays (at_replica.Deliver from message) r s = refl
stays at_replica.Apply r s = refl
stays at_replica.Cut r s = refl
stays at_replica.Remove r s = absurd s
stays (at_replica.Peek key) r s = refl
stays at_replica.Restart r s = refl

done_turn : (n : Node) (range : ℕ) (e : ReplicaEvent AppliedState) (d : Done) → status_after e d.replica ≡ Live d.replica → turned_by n range (left_of d) d.right ≡ answered (after_replica n range e d) d.answer
done_turn n range e d is = ap (λ (s : Status). answered (opened (after_turn n range s d) d.right) d.answer) (sym is)

plan_turn : (n : Node) (range : ℕ) (e : ReplicaEvent AppliedState) (l : Left) (right : Option AppliedState) (d : Done) → l ≡ left_of d → right ≡ d.right → StaysLive e → turned_by n range l right ≡ answered (after_replica n range e d) d.answer
plan_turn n range e l right d does starts live =
    ap (λ (x : Left). turned_by n range x right) does
    ∙ ap (λ (x : Option AppliedState). turned_by n range (left_of d) x) starts
    ∙ done_turn n range e d (stays e d.replica live)

pub ready_turn : (n : Node) (range : ℕ) (e : ReplicaEvent AppliedState) (p : Option ReplicaPlan) (s : Seat) → SeatReady s e n.ticks n.rounds p → StaysLive e → turned n range p s ≡ by_status n range e [] (status_of s)
ready_turn n range e p seats.Absent ready live = refl
ready_turn n range e None (seats.Live held) ready live = absurd ready
ready_turn n range e (Some p) (seats.Live held) ready live =
    plan_turn n range e (planned held.replica p) (right_in p) (event held.replica e n.ticks n.rounds [])
    ready.plan.makes.does ready.plan.right live
ready_turn n range e p (seats.Removed kept) ready live = refl

-- an event and its answer in the journal
pub written_node : (c : Core) (logs : Logs) (past : PastEvent) (answer : EventAnswer) → logs.journal.list ≡ c.logs.journal.list ++ record { event = past; answer = answer } ∷ [] → logs.sent ≡ c.logs.sent → logs.outcomes ≡ c.logs.outcomes → logs.requests ≡ c.logs.requests → answered (node_of (record c { logs = logs })) answer ≡ written past (answered (node_of c) answer)
written_node c logs past answer journal sent outcomes requests = rw (journal, sent, outcomes, requests) refl

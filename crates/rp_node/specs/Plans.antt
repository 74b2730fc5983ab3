-- What a plan does at a node, and where it may be committed.
use Rattle.std.specs.Prelude.{◌≡◌, ℕ, ◌≤◌, [], ◌++◌, length, Option, None, Some}
use Rattle.rp_request.specs.Applied.{AppliedState}
use Rattle.rp_request.specs.declared.outcomes.Refusal.TheVariants.{NoReplica}
use Rattle.rp_events.specs.declared.answers.Effects.{Effects}
use Rattle.rp_events.specs.declared.answers.EventAnswer.{EventAnswer}
use Rattle.rp_events.specs.declared.answers.EventAnswer.TheVariants as answers
use Rattle.rp_events.specs.declared.replica_events.ReplicaEvent.{ReplicaEvent}
use Rattle.rp_events.specs.declared.replica_events.ReplicaEvent.TheVariants as at_replica
use Rattle.rp_events.specs.Nodes.{Node, NodeDone, Status, Absent, Live, Removed, seat, with_seat, parcels, opened}
use Rattle.rp_events.specs.ReplicaEvents.{event}
use Rattle.rp_events.specs.Allows.{draft_at}
use Rattle.rp_replica.specs.Plans.{HasRoom, IsCollect, IsPlan, Left, PlanFits, planned, right_in}
use Rattle.rp_replica.specs.Rooms as rooms
use Rattle.rp_replica.specs.declared.plans.ReplicaPlan.{ReplicaPlan}
use Rattle.rp_node.specs.declared.logs.Logs.{Logs}
use Rattle.rp_node.specs.declared.seats.Seat.{Seat}
use Rattle.rp_node.specs.declared.seats.Seat.TheVariants as seats
use Rattle.rp_node.specs.Cores.{HasSpare}

-- the plan of an event at the replica in a seat, with room made for it
pub record IsReady
    (held : rooms.Held) (e : ReplicaEvent AppliedState) (ticks round : ℕ) (p : ReplicaPlan)
    : Type 0 where
  pub plan : IsPlan held.replica (draft_at held.replica e) p (event held.replica e ticks round [])
  pub room : HasRoom held.room p
  pub collect : e ≡ at_replica.Collect → IsCollect p

-- a seat with a replica has such a plan, any other none
abbrev pub SeatReady :
    Seat → ReplicaEvent AppliedState → (ticks round : ℕ) → Option ReplicaPlan → Type 0
SeatReady seats.Absent e ticks round p = p ≡ None
SeatReady (seats.Live held) e ticks round None = ⊥
SeatReady (seats.Live held) e ticks round (Some p) = IsReady held e ticks round p
SeatReady (seats.Removed kept) e ticks round p = p ≡ None

-- a plan may be committed: there is room for it, and for the messages and outcomes that it hands out
pub record PlanReady (held : rooms.Held) (p : ReplicaPlan) (sends ends : ℕ) : Type 0 where
  pub fits : PlanFits held.replica p
  pub room : HasRoom held.room p
  pub sends_fit : length (planned held.replica p).messages ≤ sends
  pub ends_fit : length (planned held.replica p).outcomes ≤ ends

abbrev pub TurnReady : Seat → Option ReplicaPlan → (sends ends : ℕ) → Type 0
TurnReady seats.Absent p sends ends = Unit {0}
TurnReady (seats.Live held) None sends ends = Unit {0}
TurnReady (seats.Live held) (Some p) sends ends = PlanReady held p sends ends
TurnReady (seats.Removed kept) p sends ends = Unit {0}

-- what a plan leaves, with this in the range's seat
abbrev pub with_left : Node → (range : ℕ) → Status → Left → Node
with_left n range status l = record (with_seat n range status) {
  sent = n.sent ++ parcels range l.messages;
  outcomes = n.outcomes ++ l.outcomes;
}

-- without a replica
abbrev pub refused : Node → NodeDone
refused n = record { node = n; answer = answers.Refused NoReplica }

-- a plan is committed, and the right range that it starts is opened
abbrev pub turned_by : Node → (range : ℕ) → Left → Option AppliedState → NodeDone
turned_by n range l right = record {
  node = opened (with_left n range (Live l.replica) l) right;
  answer = l.answer;
}

abbrev pub turned : Node → (range : ℕ) → Option ReplicaPlan → Seat → NodeDone
turned n range p seats.Absent = refused n
turned n range None (seats.Live held) = refused n
turned n range (Some p) (seats.Live held) =
    turned_by n range (planned held.replica p) (right_in p)
turned n range p (seats.Removed kept) = refused n

-- what contracts see of what a plan hands out
abbrev pub handed_out : Left → Effects AppliedState
handed_out l = record { answer = l.answer; messages = l.messages; outcomes = l.outcomes }

-- a plan may be committed at the replica in a seat
abbrev pub SeatFits : Seat → ReplicaPlan → Type 0
SeatFits seats.Absent p = Unit {0}
SeatFits (seats.Live held) p = PlanFits held.replica p × HasRoom held.room p
SeatFits (seats.Removed kept) p = Unit {0}

-- what the seat holds then, and what is handed out
abbrev pub status_by : Seat → ReplicaPlan → Status
status_by seats.Absent p = Absent
status_by (seats.Live held) p = Live (planned held.replica p).replica
status_by (seats.Removed kept) p = Removed kept.history

abbrev pub effects_by : Seat → ReplicaPlan → Option (Effects AppliedState)
effects_by seats.Absent p = None
effects_by (seats.Live held) p = Some (handed_out (planned held.replica p))
effects_by (seats.Removed kept) p = None

-- the seat's event was planned, and there is room for all that it hands out
pub record IsPrepared
    (seat : Seat) (logs : Logs) (e : ReplicaEvent AppliedState) (ticks round : ℕ)
    (p : Option ReplicaPlan) : Type 0 where
  pub ready : SeatReady seat e ticks round p
  pub turn : TurnReady seat p logs.sent.spare logs.outcomes.spare
  pub spare : HasSpare logs 0 0

-- the event leaves the replica in its seat
abbrev pub StaysLive : ReplicaEvent AppliedState → Type 0
StaysLive (at_replica.Admit id request) = Unit {0}
StaysLive at_replica.Ask = Unit {0}
StaysLive (at_replica.Transfer to) = Unit {0}
StaysLive at_replica.Collect = Unit {0}
StaysLive at_replica.Flush = Unit {0}
StaysLive at_replica.Tick = Unit {0}
StaysLive (at_replica.Deliver from message) = Unit {0}
StaysLive at_replica.Apply = Unit {0}
StaysLive at_replica.Cut = Unit {0}
StaysLive at_replica.Remove = ⊥
StaysLive (at_replica.Peek key) = Unit {0}
StaysLive at_replica.Restart = Unit {0}

-- a node after its event, with the answer
abbrev pub answered : Node → EventAnswer → NodeDone
answered n answer = record { node = n; answer = answer }

-- a replica leaves a tombstone
abbrev pub taken_down : Status → Status
taken_down Absent = Absent
taken_down (Live r) = Removed r.applied
taken_down (Removed applied) = Removed applied

abbrev pub taken_down_in : Node → (range : ℕ) → Node
taken_down_in n range = with_seat n range (taken_down (seat n range))

-- where there is a plan it was done, and without a replica it is refused
abbrev pub idle_answer : Option ReplicaPlan → EventAnswer
idle_answer None = answers.Refused NoReplica
idle_answer (Some p) = answers.Done

-- An event of every live replica of a node: planned at all of them, before any takes its turn.
use Rattle.std.specs.Prelude.{◌≡◌, ℕ, ◌+◌, ◌<◌, ◌≤◌, List, length, slice_index_or, sum_by, Option, None, Some}
use Rattle.rp_raft.specs.Plans as rafts
use Rattle.rp_request.specs.Applied.{AppliedState}
use Rattle.rp_events.specs.declared.replica_events.ReplicaEvent.{ReplicaEvent}
use Rattle.rp_events.specs.declared.replica_events.ReplicaEvent.TheVariants as at_replica
use Rattle.rp_events.specs.Nodes.{Node}
use Rattle.rp_replica.specs.Plans.{right_in}
use Rattle.rp_replica.specs.declared.plans.ReplicaPlan.{ReplicaPlan}
use Rattle.rp_replica.specs.declared.plans.ReplicaPlan.TheVariants.{Answers, Admits, Asks, Collects, Applies, HandsOver, Cuts, Removes, Restarts}
use Rattle.rp_node.specs.declared.cores.Core.{Core}
use Rattle.rp_node.specs.declared.logs.Logs.{Logs}
use Rattle.rp_node.specs.declared.seats.Seat.{Seat}
use Rattle.rp_node.specs.declared.ticks.NodeWide.{NodeWide}
use Rattle.rp_node.specs.declared.ticks.NodeWide.TheVariants.{Tick, Restart}
use Rattle.rp_node.specs.Cores.{HasSpare, seat_in}
use Rattle.rp_node.specs.Plans.{SeatReady}

-- the event at one replica
abbrev pub event_of : NodeWide → ReplicaEvent AppliedState
event_of Tick = at_replica.Tick
event_of Restart = at_replica.Restart

-- the node at this tick
abbrev pub with_ticks : Node → (ticks : ℕ) → Node
with_ticks n ticks = record n { ticks = ticks }

-- how many messages a plan hands out, at whatever replica
abbrev pub sends_of : ReplicaPlan → ℕ
sends_of (Answers answer) = 0
sends_of (Admits p) = 0
sends_of (Asks ask) = 0
sends_of (Collects taken) = 0
sends_of (Applies a) = 0
sends_of (HandsOver h) = length (rafts.sends_of h.raft)
sends_of (Cuts p) = length (rafts.sends_of p)
sends_of (Removes outcomes) = 0
sends_of (Restarts outcomes) = 0

-- and how many outcomes
abbrev pub ends_of : ReplicaPlan → ℕ
ends_of (Answers answer) = 0
ends_of (Admits p) = 0
ends_of (Asks ask) = 0
ends_of (Collects taken) = 0
ends_of (Applies a) = length a.outcomes
ends_of (HandsOver h) = length h.outcomes
ends_of (Cuts p) = 0
ends_of (Removes outcomes) = length outcomes
ends_of (Restarts outcomes) = length outcomes

-- where nothing is planned, none
abbrev pub seat_sends : Option ReplicaPlan → ℕ
seat_sends None = 0
seat_sends (Some p) = sends_of p

abbrev pub seat_ends : Option ReplicaPlan → ℕ
seat_ends None = 0
seat_ends (Some p) = ends_of p

-- the plan at a range's seat
abbrev pub plan_in : List (Option ReplicaPlan) → (range : ℕ) → Option ReplicaPlan
plan_in plans range = slice_index_or plans range None

-- each seat has the event's plan, with room made for it
pub record AllReady
    (seats : List Seat) (e : ReplicaEvent AppliedState) (ticks rounds : ℕ)
    (plans : List (Option ReplicaPlan)) : Type 0 where
  pub many : length plans ≡ length seats
  pub each : (range : ℕ) → range < length plans
      → SeatReady (seat_in seats range) e ticks rounds (plan_in plans range)

-- and there is room for all that they hand out together
pub record ArePrepared
    (seats : List Seat) (logs : Logs) (e : ReplicaEvent AppliedState) (ticks rounds : ℕ)
    (plans : List (Option ReplicaPlan)) : Type 0 where
  pub ready : AllReady seats e ticks rounds plans
  pub spare : HasSpare logs (sum_by seat_sends plans) (sum_by seat_ends plans)

-- a plan opens no right range
abbrev pub OpensNothing : Option ReplicaPlan → Type 0
OpensNothing None = Unit {0}
OpensNothing (Some p) = right_in p ≡ None

-- a turn takes no more room than it hands out, and leaves the other seats
pub record TurnedAt (range : ℕ) (p : Option ReplicaPlan) (old new : Core) : Type 0 where
  pub sent : old.logs.sent.spare ≤ new.logs.sent.spare + seat_sends p
  pub outcomes : old.logs.outcomes.spare ≤ new.logs.outcomes.spare + seat_ends p
  pub others : OpensNothing p → (k : ℕ) → ¬ (k ≡ range) → seat_in new.seats k ≡ seat_in old.seats k

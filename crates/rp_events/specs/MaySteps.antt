-- Which events may come at a node.
use Rattle.std.specs.Prelude.{◌≡◌, ℕ, ◌+◌, ◌<◌, ◌≤◌, ◌^◌, false}
use Rattle.rp_raftstep.specs.declared.messages.Message.{Message}
use Rattle.rp_raftstep.specs.Conditions.{MessageFits}
use Rattle.rp_request.specs.Applied.{AppliedState}
use Rattle.rp_events.specs.declared.node_events.Event.{Event}
use Rattle.rp_events.specs.declared.node_events.Event.TheVariants.{Admit, Ask, Transfer, Collect, Flush, Tick, Deliver, Apply, Cut, Remove, Peek, Restart, Round}
use Rattle.rp_events.specs.declared.replica_events.ReplicaEvent.{ReplicaEvent}
use Rattle.rp_events.specs.declared.replica_events.ReplicaEvent.TheVariants as at_replica
use Rattle.rp_events.specs.Allows.{Allows}
use Rattle.rp_events.specs.Nodes.{Node, Status, Absent, Live, Removed, seat, is_full}

-- a live replica allows the event; a seat without one asks for nothing
abbrev pub SeatAllows : Status → ReplicaEvent AppliedState → (ticks : ℕ) → Type 0
SeatAllows Absent e ticks = Unit {0}
SeatAllows (Live r) e ticks = Allows r e ticks
SeatAllows (Removed applied) e ticks = Unit {0}

-- each live replica allows a tick, and the node's ticks stay below their end
pub record MayTick (n : Node) : Type 0 where
  pub ticks : n.ticks + 1 < 2 ^ 64
  pub each : (range : ℕ) → SeatAllows (seat n range) at_replica.Tick (n.ticks + 1)

-- the range's replica allows the message, and its indexes stay below their ends, also where it makes a
-- replica
pub record MayCome (n : Node) (from range : ℕ) (message : Message AppliedState) : Type 0 where
  pub seat_allows : SeatAllows (seat n range) (at_replica.Deliver from message) n.ticks
  pub fits : MessageFits message

abbrev pub MayDo : Node → Event AppliedState → Type 0
MayDo n (Admit range id request) = SeatAllows (seat n range) (at_replica.Admit id request) n.ticks
MayDo n (Ask range) = SeatAllows (seat n range) at_replica.Ask n.ticks
MayDo n (Transfer range to) = SeatAllows (seat n range) (at_replica.Transfer to) n.ticks
MayDo n (Collect range) = SeatAllows (seat n range) at_replica.Collect n.ticks
MayDo n (Flush range) = SeatAllows (seat n range) at_replica.Flush n.ticks
MayDo n Tick = MayTick n
MayDo n (Deliver from range number message) = MayCome n from range message
MayDo n (Apply range) = SeatAllows (seat n range) at_replica.Apply n.ticks
MayDo n (Cut range) = SeatAllows (seat n range) at_replica.Cut n.ticks
MayDo n (Remove range) = SeatAllows (seat n range) at_replica.Remove n.ticks
MayDo n (Peek range key) = SeatAllows (seat n range) (at_replica.Peek key) n.ticks
MayDo n Restart = Unit {0}
MayDo n Round = n.rounds + 1 < 2 ^ 64

-- of five nodes at most one whose journal is not full takes an event that its replicas allow
pub record MayStep (n : Node) (e : Event AppliedState) : Type 0 where
  pub nodes : n.nodes ≤ 5
  pub full : is_full n ≡ false
  pub may : MayDo n e

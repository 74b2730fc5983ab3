-- A turn of one range at a node: what a scene makes of the range at all nodes and in the machine.
use Rattle.std.specs.Prelude.{◌≡◌, ◌⊎◌, ℕ, ◌+◌, ◌<◌, ◌≤◌, IsTrue, List, ◌++◌, map, length, Option, Some}
use Rattle.std.specs.List.{AllByRecursion}
use Rattle.rp_base.specs.declared.ids.CmdId.{CmdId}
use Rattle.rp_base.specs.declared.items.Item.{Item}
use Rattle.rp_raftstep.specs.declared.messages.Message.{Message}
use Rattle.rp_request.specs.Applied.{AppliedState}
use Rattle.rp_request.specs.Fits.{FitsAsk, FitsCommand}
use Rattle.rp_request.specs.declared.commands.Payload.{Payload}
use Rattle.rp_request.specs.declared.outcomes.Outcome.{Outcome}
use Rattle.rp_pending.specs.declared.proposals.Proposal.{Proposal}
use Rattle.rp_pending.specs.Proposals.{proposal_of}
use Rattle.rp_raftstep.specs.RaftState.{nodes_to}
use Rattle.rp_request.specs.States.{first_applied}
use Rattle.rp_raftsafe.specs.World as raft
use Rattle.rp_raftsafe.specs.Safety.{OneList}
use Rattle.rp_request.specs.Covers.{HasKeys}
use Rattle.rp_rangesafe.specs.Along.{entry}
use Rattle.rp_rangesafe.specs.World.{World, Event, Commit, AllLawful, MayCommit, begin, run, state_at}
use Rattle.rp_rangesafe.specs.Places.{IsReached}
use Rattle.rp_events.specs.declared.answers.Ended.{Ended}
use Rattle.rp_events.specs.Moves.{command_of}
use Rattle.rp_events.specs.Replicas.{Replica}
use Rattle.rp_events.specs.Nodes.{Node, Status, Live, seat, parcel_of}
use Rattle.rp_events.specs.Worlds as worlds
use Rattle.rp_events.specs.Worlds.{Happening, Ask, Transfer, Collect, Flush, Tick, Deliver, Apply, Cut, Remove, Peek, Scene, first_world, node_of, sent_by, happens}
use Rattle.rp_events.specs.Flushes.{assigning, flushed}
use Rattle.rp_events.specs.Refreshes.{ticked, delivered}
use Rattle.rp_events.specs.Lawful.{is_lawful}
use Rattle.rp_seats.specs.Views.{read}
use Rattle.rp_seats.specs.Scenes.{doings_in, raft_events, StartsIn}
use Rattle.rp_seats.specs.Standing.{AreShaped, SeatOk, RangeOk}
use Rattle.rp_seats.specs.Steps.{AllHappenAt, AdmitsNone, AreElsewhere, told_after, EndEach, AreEnds}

-- each of these has the widths of a command
abbrev pub FitsPending : List Proposal → Type 0
FitsPending ps = (id : CmdId) (p : Proposal) → proposal_of id ps ≡ Some p → FitsCommand (command_of p)

-- the part of a seat's event before the list grows: lawful steps of the node, behind which the seat
-- stands as it is left, each attempt that ended is told so, and what is handed to Raft may be committed
pub record SeatTurned (node range : ℕ) (h : World) (told : CmdId → Option Outcome) (status : Status)
    (ended : List Ended) (proposed : List (List ℕ)) : Type 0 where
  pub events : List Event
  pub lawful : AllLawful h events
  pub own : AllHappenAt node h events
  pub quiet : AdmitsNone events
  pub log : (run h events).log ≡ h.log
  pub seat : SeatOk (run h events) node range status (told_after told ended)
  pub ends : EndEach told ended
  pub may : AllByRecursion (λ bytes. MayCommit (run h events) (read bytes)) proposed

-- one node of a world is this from now on, and was that; the others stay
pub record IsNodeChange (w after : worlds.World) (node : ℕ) (n new : Node) : Type 0 where
  pub was : node_of w node ≡ Some n
  pub others : (other : ℕ) (m : Node) → node_of after other ≡ Some m
      → ((other ≡ node) × (m ≡ new)) ⊎ ((other ≡ node → ⊥) × (node_of w other ≡ Some m))

-- behind these events of the node come commits; all of them are lawful, and behind them the range stands
-- at all nodes
pub record TurnBehind (lists : OneList AppliedState) (nodes range : ℕ) (s : AppliedState)
    (seen : List raft.Event) (w : worlds.World) (h : World) (node : ℕ) (first : List Event)
    : Type 0 where
  pub commits : List Payload
  pub lawful : AllLawful h (first ++ map Commit commits)
  pub elsewhere : (other : ℕ) → (other ≡ node → ⊥)
      → AreElsewhere other h (first ++ map Commit commits)
  pub range_ok : RangeOk lists nodes range s seen w (run h (first ++ map Commit commits))

-- a turn of a range at a node: lawful steps of the machine, at the node or at none, behind which the
-- range stands at all nodes
pub record TurnOk (lists : OneList AppliedState) (nodes range : ℕ) (s : AppliedState)
    (seen : List raft.Event) (w : worlds.World) (h : World) (node : ℕ) : Type 0 where
  pub events : List Event
  pub lawful : AllLawful h events
  pub elsewhere : (other : ℕ) → (other ≡ node → ⊥) → AreElsewhere other h events
  pub quiet : AdmitsNone events
  pub range_ok : RangeOk lists nodes range s seen w (run h events)

-- the payload is the machine's next entry at the node
pub record IsNext (h : World) (node : ℕ) (p : Payload) : Type 0 where
  pub within : h.index node < length h.log
  pub entry_is : entry h.log (h.index node) ≡ p

-- the index, behind a range's base, and the state are ones that the machine has
pub record IsJump (h : World) (base index : ℕ) (state : AppliedState) : Type 0 where
  pub to : ℕ
  pub at : to + base ≡ index
  pub within : to ≤ length h.log
  pub state_is : state_at h to ≡ state

-- the node has this replica of the range, and the range stands beside the machine
pub record IsSeated (lists : OneList AppliedState) (range : ℕ) (s : AppliedState)
    (seen : List raft.Event) (w : worlds.World) (h : World) (node : ℕ) (n : Node) (r : Replica)
    : Type 0 where
  pub below : range < 8
  pub shaped : AreShaped w
  pub ok : RangeOk lists (length w) range s seen w h
  pub reached : IsReached h
  pub has : node_of w node ≡ Some n
  pub ends : AreEnds n.outcomes
  pub live : seat n range ≡ Live r

-- the scene is lawful, and starts the range in no other state
abbrev pub MayTurn : (range : ℕ) → AppliedState → worlds.World → Scene → Type 0
MayTurn range s w x = IsTrue (is_lawful w x) × StartsIn s (doings_in range w x)

-- the scene is a turn of the range
abbrev pub Turns : OneList AppliedState → (range : ℕ) → AppliedState → List raft.Event → worlds.World
    → World → Scene → Type 0
Turns lists range s seen w h x =
    TurnOk lists (length w) range s (seen ++ raft_events range w x) (happens w x) h x.node

-- a scene at this node
abbrev pub scene_at : (node : ℕ) → Happening → Scene
scene_at node what = record { node = node; what = what }

-- what happens at a seat with a live replica, but an admission and a restart, is a turn of its range. What is proposed is to have the widths of a command, and the lease asks of the inbox those of an
-- ask
pub record ScenesTurn (lists : OneList AppliedState) (range : ℕ) (s : AppliedState)
    (seen : List raft.Event) (w : worlds.World) (h : World) (node : ℕ) (n : Node) (r : Replica)
    : Type 0 where
  pub ask : MayTurn range s w (scene_at node (Ask range))
      → Turns lists range s seen w h (scene_at node (Ask range))
  pub transfer : (to : ℕ) → MayTurn range s w (scene_at node (Transfer range to))
      → Turns lists range s seen w h (scene_at node (Transfer range to))
  pub collect : (taken : List Item) → MayTurn range s w (scene_at node (Collect range taken))
      → Turns lists range s seen w h (scene_at node (Collect range taken))
  pub flush : MayTurn range s w (scene_at node (Flush range))
      → AllByRecursion FitsAsk (assigning r).leases
      → FitsPending (flushed r n.ticks n.rounds).replica.pending
      → Turns lists range s seen w h (scene_at node (Flush range))
  pub tick : MayTurn range s w (scene_at node Tick)
      → FitsPending (ticked r (n.ticks + 1) n.rounds).replica.pending
      → Turns lists range s seen w h (scene_at node Tick)
  pub deliver : (from number to : ℕ) (message : Message AppliedState)
      → parcel_of (sent_by w from) number
      ≡ Some (record { to = to; range = range; message = message })
      → MayTurn range s w (scene_at node (Deliver from number))
      → FitsPending (delivered r from message n.ticks n.rounds).replica.pending
      → Turns lists range s seen w h (scene_at node (Deliver from number))
  pub apply : MayTurn range s w (scene_at node (Apply range))
      → Turns lists range s seen w h (scene_at node (Apply range))
  pub cut : MayTurn range s w (scene_at node (Cut range))
      → Turns lists range s seen w h (scene_at node (Cut range))
  pub remove : MayTurn range s w (scene_at node (Remove range))
      → Turns lists range s seen w h (scene_at node (Remove range))
  pub peek : (key : ℕ) → MayTurn range s w (scene_at node (Peek range key))
      → Turns lists range s seen w h (scene_at node (Peek range key))

-- Raft's events by which a range begins at each of so many nodes
abbrev pub begins_at_all : (nodes : ℕ) → List raft.Event
begins_at_all nodes = map (λ node. raft.Acts node raft.Begin) (nodes_to nodes)

-- range 0 of the first world stands beside the machine, behind the commits of what Raft began with
pub record FirstOk (lists : OneList AppliedState) (nodes : ℕ) : Type 0 where
  pub events : List Event
  pub lawful : AllLawful (begin first_applied) events
  pub quiet : AdmitsNone events
  pub range_ok : RangeOk lists nodes 0 first_applied (begins_at_all nodes) (first_world nodes)
      (run (begin first_applied) events)

-- the pending ones' keys lie in the key space
abbrev pub HaveKeys : List Proposal → Type 0
HaveKeys ps = (id : CmdId) (p : Proposal) → proposal_of id ps ≡ Some p → HasKeys p.request

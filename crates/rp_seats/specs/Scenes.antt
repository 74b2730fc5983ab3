-- What a scene is to one range: the events of its Raft.
use Rattle.std.specs.Prelude.{◌≡◌, ℕ, ◌+◌, ◌==◌, if◌then◌else◌, List, [], ◌∷◌, ◌++◌, map, Option, None, Some}
use Rattle.std.specs.Option.{option_map_or}
use Rattle.rp_base.specs.declared.items.Item.{Item}
use Rattle.rp_raftstep.specs.declared.messages.Message.{Message}
use Rattle.rp_request.specs.Applied.{AppliedState}
use Rattle.rp_request.specs.declared.commands.Payload.{Payload}
use Rattle.rp_raftsafe.specs.World as raft
use Rattle.rp_raftsafe.specs.World.{Action, Begin, Ticks, Proposes, Applies, Cuts, Removes, Restarts}
use Rattle.rp_events.specs.declared.node_events.Event.{Event}
use Rattle.rp_events.specs.declared.node_events.Event.TheVariants as events
use Rattle.rp_events.specs.declared.replica_events.ReplicaEvent.{ReplicaEvent}
use Rattle.rp_events.specs.declared.replica_events.ReplicaEvent.TheVariants.{Admit, Ask, Transfer, Collect, Flush, Tick, Deliver, Apply, Cut, Remove, Peek, Restart}
use Rattle.rp_events.specs.Replicas.{Replica, Done}
use Rattle.rp_events.specs.ReplicaEvents.{event}
use Rattle.rp_events.specs.Applications.{payload_of, next_entry}
use Rattle.rp_events.specs.Nodes.{Node, Status, Absent, Live, Removed, seat, range_numbers}
use Rattle.rp_events.specs.NodeEvents.{status_after, live_turn}
use Rattle.rp_events.specs.Worlds.{World, Scene, node_of, sent_by, event_of, taken_in}
use Rattle.rp_seats.specs.Views.{core, core_of, range_at, number_in}

-- what happens to what a node has of a range, as Raft has it: an action of a replica, a message, or the
-- range's start in this state
pub data Doing : Type 0 where
  Acts : Action → Doing
  Gets : (from number : ℕ) → Message AppliedState → (again : List (List ℕ)) → Doing
  Starts : AppliedState → Doing

-- what a doing makes of it
abbrev pub turn_of : (nodes range : ℕ) → AppliedState → (node : ℕ) → Doing
    → raft.Status AppliedState → raft.Turn AppliedState
turn_of nodes range start node (Acts action) status =
    raft.acts (range_at nodes range start) node action status
turn_of nodes range start node (Gets from number message again) status =
    raft.gets (range_at nodes range start) node from message again status
turn_of nodes range start node (Starts s) status =
    raft.acts (range_at nodes range s) node Begin status

-- doings one after another
abbrev pub site_after : (nodes range : ℕ) → AppliedState → (node : ℕ) → List Doing
    → raft.Site AppliedState → raft.Site AppliedState
site_after nodes range start node [] site = site
site_after nodes range start node (d ∷ ds) site =
    site_after nodes range start node ds
    (raft.after_turn site (turn_of nodes range start node d site.status))

-- an application, where there is an entry that carries a payload
abbrev pub applying : Option Payload → List Doing
applying None = []
applying (Some p) = Acts Applies ∷ []

-- what an event of a replica, which hands these payloads to Raft, is to its Raft; a message comes with its
-- number among all that its sender sent
abbrev pub doings_of : (number : ℕ) → Replica → ReplicaEvent AppliedState → List (List ℕ) → List Doing
doings_of number r (Admit id request) proposed = []
doings_of number r Ask proposed = []
doings_of number r (Transfer to) proposed = []
doings_of number r Collect proposed = []
doings_of number r Flush proposed = Acts (Proposes proposed) ∷ []
doings_of number r Tick proposed = Acts (Ticks proposed) ∷ []
doings_of number r (Deliver from message) proposed = Gets from number message proposed ∷ []
doings_of number r Apply proposed = applying (payload_of (next_entry r))
doings_of number r Cut proposed = Acts Cuts ∷ []
doings_of number r Remove proposed = Acts Removes ∷ []
doings_of number r (Peek key) proposed = []
doings_of number r Restart proposed = Acts Restarts ∷ []

-- a right range starts
abbrev pub starting : (range : ℕ) → Option AppliedState → List Doing
starting range None = []
starting range (Some s) = if s.desc.id == range then Starts s ∷ [] else []

-- what an event of the replica of a range is to this range: its own, and then the start of a right range
abbrev pub seen_by : (range at number : ℕ) → Replica → ReplicaEvent AppliedState → Done → List Doing
seen_by range at number r e d =
    (if at == range then doings_of number r e d.proposed else []) ++ starting range d.right

-- what an event of a seat is to a range
abbrev pub seat_doings : (range : ℕ) → Node → (at number : ℕ) → ReplicaEvent AppliedState → List Item
    → Status → List Doing
seat_doings range n at number e taken Absent = []
seat_doings range n at number e taken (Live r) =
    seen_by range at number r e (event r e n.ticks n.rounds taken)
seat_doings range n at number e taken (Removed applied) = []

-- and an event of each of these seats
abbrev pub all_doings : (range : ℕ) → ReplicaEvent AppliedState → Node → List ℕ → List Doing
all_doings range e n [] = []
all_doings range e n (at ∷ more) =
    seat_doings range n at 0 e [] (seat n at) ++ all_doings range e (live_turn e n at (seat n at)) more

-- a message of its own range comes, also where the node has nothing of it
abbrev pub message_doings : (range : ℕ) → Node → (at from number : ℕ) → Message AppliedState → Status
    → List Doing
message_doings range n at from number message Absent =
    if at == range then Gets from number message [] ∷ [] else []
message_doings range n at from number message (Live r) =
    seat_doings range n at number (Deliver from message) [] (Live r)
message_doings range n at from number message (Removed applied) = []

-- what an event of a node is to a range
abbrev pub node_doings : (range : ℕ) → Node → Event AppliedState → List Item → List Doing
node_doings range n (events.Admit at id request) taken =
    seat_doings range n at 0 (Admit id request) [] (seat n at)
node_doings range n (events.Ask at) taken = seat_doings range n at 0 Ask [] (seat n at)
node_doings range n (events.Transfer at to) taken = seat_doings range n at 0 (Transfer to) [] (seat n at)
node_doings range n (events.Collect at) taken = seat_doings range n at 0 Collect taken (seat n at)
node_doings range n (events.Flush at) taken = seat_doings range n at 0 Flush [] (seat n at)
node_doings range n events.Tick taken =
    all_doings range Tick (record n { ticks = n.ticks + 1 }) range_numbers
node_doings range n (events.Deliver from at number message) taken =
    message_doings range n at from number message (seat n at)
node_doings range n (events.Apply at) taken = seat_doings range n at 0 Apply [] (seat n at)
node_doings range n (events.Cut at) taken = seat_doings range n at 0 Cut [] (seat n at)
node_doings range n (events.Remove at) taken = seat_doings range n at 0 Remove [] (seat n at)
node_doings range n (events.Peek at key) taken = seat_doings range n at 0 (Peek key) [] (seat n at)
node_doings range n events.Restart taken = all_doings range Restart n range_numbers
node_doings range n events.Round taken = []

-- a doing as an event of Raft's world of the range
abbrev pub as_event : (range : ℕ) → World → (node : ℕ) → Doing → raft.Event
as_event range w node (Acts action) = raft.Acts node action
as_event range w node (Gets from number message again) =
    raft.Comes from (number_in range (sent_by w from) number) again
as_event range w node (Starts s) = raft.Acts node Begin

-- what a scene is to a range
abbrev pub scene_doings : (range : ℕ) → World → Scene → Node → List Doing
scene_doings range w x n =
    option_map_or (λ e. node_doings range n e (taken_in x.what)) (event_of w x.what) []

abbrev pub doings_in : (range : ℕ) → World → Scene → List Doing
doings_in range w x = option_map_or (scene_doings range w x) (node_of w x.node) []

abbrev pub raft_events : (range : ℕ) → World → Scene → List raft.Event
raft_events range w x = map (as_event range w x.node) (doings_in range w x)

-- whether a range that begins does so in this state
abbrev pub StartsIn : AppliedState → List Doing → Type 0
StartsIn start [] = Unit {0}
StartsIn start (Acts action ∷ ds) = StartsIn start ds
StartsIn start (Gets from number message again ∷ ds) = StartsIn start ds
StartsIn start (Starts s ∷ ds) = (s ≡ start) × StartsIn start ds

-- an event of a replica is to its site what its doings make of it
abbrev pub IsTurn : (nodes range : ℕ) → AppliedState → (node number : ℕ) → Replica
    → List (ℕ × Message AppliedState) → ReplicaEvent AppliedState → Done → Type 0
IsTurn nodes range start node number r sent e d =
    site_after nodes range start node (doings_of number r e d.proposed)
    (record { status = raft.Live (core r); sent = sent })
    ≡ record { status = core_of (status_after e d.replica); sent = sent ++ d.messages }

-- nothing but a start happens
abbrev pub OnlyStarts : List Doing → Type 0
OnlyStarts [] = Unit {0}
OnlyStarts (Acts action ∷ ds) = ⊥
OnlyStarts (Gets from number message again ∷ ds) = ⊥
OnlyStarts (Starts s ∷ ds) = OnlyStarts ds

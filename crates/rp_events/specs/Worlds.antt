-- A world of nodes, what may happen in it, and which lists of events are lawful (this project).
use Rattle.std.specs.Prelude.{ℕ, zero, suc, Bool, false, List, [], ◌∷◌, map, slice_get, slice_set, Option, None, Some, option_and_then}
use Rattle.std.specs.Option.{option_map, option_map_or}
use Rattle.std.specs.List.{list_any, find}
use Rattle.rp_base.specs.Ids.{same_id}
use Rattle.rp_base.specs.declared.ids.CmdId.{CmdId}
use Rattle.rp_base.specs.declared.items.Item.{Item}
use Rattle.rp_raftstep.specs.RaftState.{nodes_to}
use Rattle.rp_request.specs.Applied.{AppliedState}
use Rattle.rp_request.specs.declared.outcomes.Outcome.{Outcome}
use Rattle.rp_request.specs.declared.outcomes.Outcome.TheVariants as outcomes
use Rattle.rp_request.specs.declared.requests.Request.{Request}
use Rattle.rp_events.specs.declared.answers.Ended.{Ended}
use Rattle.rp_events.specs.declared.answers.EventAnswer.{EventAnswer}
use Rattle.rp_events.specs.declared.answers.EventAnswer.TheVariants as answers
use Rattle.rp_events.specs.declared.journals.JournalEntry.{JournalEntry}
use Rattle.rp_events.specs.declared.journals.PastEvent.{PastEvent}
use Rattle.rp_events.specs.declared.journals.PastEvent.TheVariants as past
use Rattle.rp_events.specs.declared.node_events.Event.{Event}
use Rattle.rp_events.specs.declared.node_events.Event.TheVariants as events
use Rattle.rp_events.specs.declared.parcels.Parcel.{Parcel}
use Rattle.rp_events.specs.Nodes.{Node, first_node, parcel_of}
use Rattle.rp_events.specs.NodeEvents.{step}

-- what happens at a node: a collect with what its buffer gave, a message by its sender and its number
-- among all that the sender sent, from 1
pub data Happening : Type 0 where
  Admit : (range : ℕ) → CmdId → Request → Happening
  Ask : (range : ℕ) → Happening
  Transfer : (range to : ℕ) → Happening
  Collect : (range : ℕ) → (taken : List Item) → Happening
  Flush : (range : ℕ) → Happening
  Tick : Happening
  Deliver : (from number : ℕ) → Happening
  Apply : (range : ℕ) → Happening
  Cut : (range : ℕ) → Happening
  Remove : (range : ℕ) → Happening
  Peek : (range key : ℕ) → Happening
  Restart : Happening
  Round : Happening

-- a node, and what happens there
pub record Scene : Type 0 where
  pub node : ℕ
  pub what : Happening

-- a schedule: what happens, in order
abbrev pub Schedule : Type 0
Schedule = List Scene

-- the nodes 1, 2, ..
abbrev pub World : Type 0
World = List Node

-- a world of so many nodes as it starts
abbrev pub first_world : (nodes : ℕ) → World
first_world nodes = map (λ node. first_node node nodes) (nodes_to nodes)

-- the node with this number, where the world has it
abbrev pub node_of : World → (node : ℕ) → Option Node
node_of w zero = None
node_of w (suc place) = slice_get w place

abbrev pub with_node : World → (node : ℕ) → Node → World
with_node w zero n = w
with_node w (suc place) n = slice_set w place n

-- what a node has sent: nothing where the world lacks it
abbrev pub sent_by : World → (node : ℕ) → List (Parcel AppliedState)
sent_by w node = option_map_or (λ n. n.sent) (node_of w node) []

-- a message as an event of its receiver
abbrev pub delivery : (from number : ℕ) → Parcel AppliedState → Event AppliedState
delivery from number p = events.Deliver from p.range number p.message

-- what happens as an event of the node: a message is read from what its sender sent
abbrev pub event_of : World → Happening → Option (Event AppliedState)
event_of w (Admit range id request) = Some (events.Admit range id request)
event_of w (Ask range) = Some (events.Ask range)
event_of w (Transfer range to) = Some (events.Transfer range to)
event_of w (Collect range taken) = Some (events.Collect range)
event_of w (Flush range) = Some (events.Flush range)
event_of w Tick = Some events.Tick
event_of w (Deliver from number) = option_map (delivery from number) (parcel_of (sent_by w from) number)
event_of w (Apply range) = Some (events.Apply range)
event_of w (Cut range) = Some (events.Cut range)
event_of w (Remove range) = Some (events.Remove range)
event_of w (Peek range key) = Some (events.Peek range key)
event_of w Restart = Some events.Restart
event_of w Round = Some events.Round

-- what the buffer gives in it
abbrev pub taken_in : Happening → List Item
taken_in (Collect range taken) = taken
taken_in _ = []

-- the world after an event of this node
abbrev pub after_step : World → (node : ℕ) → Node → List Item → Event AppliedState → World
after_step w node n taken e = with_node w node (step n e taken).node

-- the world after something happened at this node
abbrev pub happens_at : World → Scene → Node → World
happens_at w x n = option_map_or (after_step w x.node n (taken_in x.what)) (event_of w x.what) w

-- the world after a scene; nothing happens at a node that it lacks
abbrev pub happens : World → Scene → World
happens w x = option_map_or (happens_at w x) (node_of w x.node) w

-- the world after a schedule
abbrev pub run : World → Schedule → World
run w [] = w
run w (x ∷ xs) = run (happens w x) xs

-- the journal's entry admitted this attempt, or refused it at its admission
abbrev pub is_admission_of : CmdId → JournalEntry → Bool
is_admission_of id e = is_admit_of id e.event
  where
    is_admit_of : CmdId → PastEvent → Bool
    is_admit_of id (past.Admit range other place) = same_id other id
    is_admit_of id _ = false

-- the node's journal has an admission of the attempt
abbrev pub asked_at : CmdId → Node → Bool
asked_at id n = list_any (is_admission_of id) n.journal

-- some journal of the world has it
abbrev pub was_asked : World → CmdId → Bool
was_asked w id = list_any (asked_at id) w

-- the request of an admission, from the node's list of requests
abbrev pub request_of : Node → PastEvent → Option Request
request_of n (past.Admit range id place) = slice_get n.requests place
request_of n _ = None

-- the outcome of an attempt by the answer to its admission: a refusal, or the one that the node's list
-- of outcomes has, or that it is pending
abbrev pub ended_of : CmdId → List Ended → Option Outcome
ended_of id outcomes = option_map (λ e. e.outcome) (find (λ e. same_id e.id id) outcomes)

abbrev pub outcome_by : Node → CmdId → EventAnswer → Outcome
outcome_by n id (answers.Refused refusal) = outcomes.Refused refusal
outcome_by n id _ = option_map_or (λ outcome. outcome) (ended_of id n.outcomes) outcomes.Pending

-- the outcome of an attempt at a node: none where it was not asked there
abbrev pub outcome_at : CmdId → Node → Option Outcome
outcome_at id n = option_map (λ e. outcome_by n id e.answer) (find (is_admission_of id) n.journal)

-- the outcome of an attempt: by the node that was asked
abbrev pub outcome_of : World → CmdId → Option Outcome
outcome_of w id = option_and_then (outcome_at id) (find (asked_at id) w)

-- the request of an attempt
abbrev pub asked_request_at : CmdId → Node → Option Request
asked_request_at id n =
    option_and_then (λ e. request_of n e.event) (find (is_admission_of id) n.journal)

abbrev pub asked_request : World → CmdId → Option Request
asked_request w id = option_and_then (asked_request_at id) (find (asked_at id) w)

-- The replay of a journal over what the nodes have sent: the node as it stood at a place of its journal.
use Rattle.std.specs.Prelude.{◌≡◌, ℕ, List, [], ◌∷◌, take, slice_get, Option, Some}
use Rattle.std.specs.Option.{option_map, option_map_or}
use Rattle.rp_base.specs.declared.ids.CmdId.{CmdId}
use Rattle.rp_base.specs.declared.items.Item.{Item}
use Rattle.rp_request.specs.Applied.{AppliedState}
use Rattle.rp_request.specs.declared.requests.Request.{Request}
use Rattle.rp_events.specs.declared.journals.JournalEntry.{JournalEntry}
use Rattle.rp_events.specs.declared.journals.PastEvent.{PastEvent}
use Rattle.rp_events.specs.declared.journals.PastEvent.TheVariants as past
use Rattle.rp_events.specs.declared.node_events.Event.{Event}
use Rattle.rp_events.specs.declared.node_events.Event.TheVariants as events
use Rattle.rp_events.specs.Nodes.{Node, first_node, parcel_of}
use Rattle.rp_events.specs.NodeEvents.{step}
use Rattle.rp_events.specs.Worlds.{World, node_of, sent_by, delivery}

-- the request at this place of the list, as an event
abbrev pub admission : List Request → (range : ℕ) → CmdId → (place : ℕ) → Option (Event AppliedState)
admission requests range id place =
    option_map (λ request. events.Admit range id request) (slice_get requests place)

-- a past event as it came: a request is read from the list of requests, a message from what its sender
-- has sent
abbrev pub as_it_came : World → List Request → PastEvent → Option (Event AppliedState)
as_it_came w requests (past.Admit range id place) = admission requests range id place
as_it_came w requests (past.Ask range) = Some (events.Ask range)
as_it_came w requests (past.Transfer range to) = Some (events.Transfer range to)
as_it_came w requests (past.Collect range taken) = Some (events.Collect range)
as_it_came w requests (past.Flush range) = Some (events.Flush range)
as_it_came w requests past.Tick = Some events.Tick
as_it_came w requests (past.Deliver from number) =
    option_map (delivery from number) (parcel_of (sent_by w from) number)
as_it_came w requests (past.Apply range) = Some (events.Apply range)
as_it_came w requests (past.Cut range) = Some (events.Cut range)
as_it_came w requests (past.Remove range) = Some (events.Remove range)
as_it_came w requests (past.Peek range key) = Some (events.Peek range key)
as_it_came w requests past.Restart = Some events.Restart
as_it_came w requests (past.Round sent) = Some events.Round

-- what a collect gave then
abbrev pub given_then : PastEvent → List Item
given_then (past.Collect range taken) = taken
given_then _ = []

-- the node after one event of a journal
abbrev pub again : World → List Request → Node → PastEvent → Node
again w requests n e =
    option_map_or (λ event. (step n event (given_then e)).node) (as_it_came w requests e) n

-- the node after a journal
abbrev pub replayed : World → List Request → Node → List JournalEntry → Node
replayed w requests n [] = n
replayed w requests n (e ∷ es) = replayed w requests (again w requests n e.event) es

-- the node as it stood before the event at this place of its journal, from 0
abbrev pub stood_before : World → Node → (place : ℕ) → Node
stood_before w n place =
    replayed w n.requests (first_node n.node n.nodes) (take place n.journal)

-- the replay of each journal is the node
abbrev pub Replays : World → Type 0
Replays w = (node : ℕ) (n : Node) → node_of w node ≡ Some n
    → replayed w n.requests (first_node n.node n.nodes) n.journal ≡ n

-- What an entry of a journal says of the world in which it was written (this project).
use Rattle.std.specs.Prelude.{◌≡◌, ℕ, List, length, Some}
use Rattle.std.specs.List.{AllByRecursion}
use Rattle.rp_request.specs.Applied.{AppliedState}
use Rattle.rp_request.specs.declared.requests.Request.{Request}
use Rattle.rp_events.specs.declared.journals.JournalEntry.{JournalEntry}
use Rattle.rp_events.specs.declared.journals.PastEvent.{PastEvent}
use Rattle.rp_events.specs.declared.node_events.Event.{Event}
use Rattle.rp_events.specs.Nodes.{Node, first_node}
use Rattle.rp_events.specs.NodeEvents.{past_of, step}
use Rattle.rp_events.specs.Worlds.{World, Scene, Happening, node_of, event_of, taken_in, happens}
use Rattle.rp_events.specs.Lawful.{Lawful, IsReached, IsLater}
use Rattle.rp_events.specs.Journals.{as_it_came, replayed, stood_before}
use Rattle.rp_journals.specs.Growth.{Grows}

-- an event of a journal is read from what the nodes have sent and from these requests
pub record IsRead (w : World) (requests : List Request) (e : PastEvent) : Type 0 where
  pub event : Event AppliedState
  pub is : as_it_came w requests e ≡ Some event

-- each event of a node's journal is read, and the replay of the journal is the node
pub record ReadsBack (w : World) (n : Node) : Type 0 where
  pub all : AllByRecursion (λ (e : JournalEntry). IsRead w n.requests e.event) n.journal
  pub is : replayed w n.requests (first_node n.node n.nodes) n.journal ≡ n

abbrev pub AllReadBack : World → Type 0
AllReadBack w = (node : ℕ) (n : Node) → node_of w node ≡ Some n → ReadsBack w n

-- a scene at this node
abbrev pub at_node : (node : ℕ) → Happening → Scene
at_node node what = record { node = node; what = what }

-- how the entry at this place of a node's journal was written: by a lawful scene of an earlier
-- world, in which the node had written so many entries
pub record WasWritten (nodes : ℕ) (w : World) (node place : ℕ) (e : JournalEntry) : Type 0 where
  -- the world before, and what happened in it
  pub before : World
  pub reached : IsReached nodes before
  pub what : Happening
  pub lawful : Lawful before (at_node node what)
  pub later : IsLater (happens before (at_node node what)) w
  -- the node as it stood
  pub n : Node
  pub has : node_of before node ≡ Some n
  pub at : length n.journal ≡ place
  pub stood : (now : Node) → node_of w node ≡ Some now → stood_before w now place ≡ n
  -- the event that came
  pub event : Event AppliedState
  pub came : event_of before what ≡ Some event
  pub entry : e ≡ record {
    event = past_of n event (taken_in what);
    answer = (step n event (taken_in what)).answer;
  }
  -- what the event left has only grown since
  pub grown : (now : Node) → node_of w node ≡ Some now
      → Grows (step n event (taken_in what)).node now

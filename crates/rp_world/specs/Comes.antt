-- Nodes with buffers as a world, and what an event of theirs leaves.
use Rattle.std.specs.Prelude.{◌≡◌, ℕ, Bool, true, false, List, [], map, option_and_then, Option, None, Some}
use Rattle.std.specs.Option.{option_map_or}
use Rattle.rp_bufcore.specs.Buffers.{Buffer, fresh}
use Rattle.rp_request.specs.Applied.{AppliedState}
use Rattle.rp_events.specs.declared.answers.Ended.{Ended}
use Rattle.rp_events.specs.declared.answers.EventAnswer.{EventAnswer}
use Rattle.rp_events.specs.declared.answers.EventAnswer.TheVariants as answers
use Rattle.rp_events.specs.declared.node_events.Event.{Event}
use Rattle.rp_events.specs.declared.world_events.WorldEvent.{WorldEvent}
use Rattle.rp_events.specs.declared.world_events.WorldEvent.TheVariants as events
use Rattle.rp_events.specs.Nodes.{Status, Absent, Live, Removed, first_node, seat}
use Rattle.rp_events.specs.Replicas.{Replica}
use Rattle.rp_events.specs.Worlds.{World, node_of, event_of}
use Rattle.rp_events.specs.Buffered.{Buffered, buffered_step}
use Rattle.rp_book.specs.Books.{last_of}
use Rattle.rp_lawful.specs.Comings.{happening_of, node_in}
use Rattle.rp_node.specs.Steps.{Held}

-- what contracts see of nodes with buffers: the nodes, and their buffers
abbrev pub buffered_of : List (Held (List Buffer)) → Buffered
buffered_of nodes = record { nodes = map (λ h. h.node) nodes; buffers = map (λ h. h.end) nodes }

-- a node as it starts, with its buffers
abbrev pub first_held : (nodes node : ℕ) → Held (List Buffer)
first_held nodes node = record { node = first_node node nodes; end = fresh }

-- an event that is no admission
abbrev pub IsNoAdmission : WorldEvent → Type 0
IsNoAdmission (events.Admit node range id request) = ⊥
IsNoAdmission _ = Unit {0}

-- the event as its node takes it
abbrev pub node_event : Buffered → WorldEvent → Option (Event AppliedState)
node_event b e = option_and_then (event_of b.nodes) (happening_of b e)

-- what the node answered to its last event
abbrev pub answer_in : World → (node : ℕ) → EventAnswer
answer_in w node =
    option_map_or (λ n. option_map_or (λ e. e.answer) (last_of n.journal) answers.Done)
    (node_of w node) answers.Done

-- how attempts ended that a node admitted: nothing where the world lacks it
abbrev pub ended_by : World → (node : ℕ) → List Ended
ended_by w node = option_map_or (λ n. n.outcomes) (node_of w node) []

-- the answer tells a value
abbrev pub is_value : EventAnswer → Bool
is_value (answers.Value value applied) = true
is_value _ = false

-- the event asks for a value
abbrev pub is_peek : WorldEvent → Bool
is_peek (events.Peek node range key) = true
is_peek _ = false

-- an event happened at its node: what it left of the nodes and the buffers, and what was answered
pub record Happens (old : List (Held (List Buffer))) (e : WorldEvent)
    (new : List (Held (List Buffer))) (answer : EventAnswer) : Type 0 where
  pub left : buffered_of new ≡ buffered_step (buffered_of old) e
  pub told : answer ≡ answer_in (buffered_of new).nodes (node_in e)
  pub value : is_peek e ≡ false → is_value answer ≡ false

-- the live replica in a seat
abbrev pub live_in : Status → Option Replica
live_in Absent = None
live_in (Live r) = Some r
live_in (Removed applied) = None

-- the live replica of a range at a node, where there is one
abbrev pub live_at : World → (node range : ℕ) → Option Replica
live_at w node range = option_and_then (λ n. live_in (seat n range)) (node_of w node)

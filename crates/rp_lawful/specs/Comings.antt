-- Events of a world with buffers as what happens at its nodes (this project).
use Rattle.std.specs.Prelude.{◌≡◌, ℕ, if◌then◌else◌, List, [], Option, None, Some}
use Rattle.rp_base.specs.declared.items.Item.{Item}
use Rattle.rp_bufcore.specs.Buffers.{buffer_of, given}
use Rattle.rp_request.specs.Applied.{AppliedState}
use Rattle.rp_script.specs.Bounds.{IsNode}
use Rattle.rp_events.specs.declared.node_events.Event.{Event}
use Rattle.rp_events.specs.declared.world_events.WorldEvent.{WorldEvent}
use Rattle.rp_events.specs.declared.world_events.WorldEvent.TheVariants as events
use Rattle.rp_events.specs.Nodes.{Node}
use Rattle.rp_events.specs.Worlds.{Happening, Scene, Admit, Ask, Transfer, Collect, Flush, Tick, Deliver, Apply, Cut, Remove, Peek, Restart, Round, node_of, event_of}
use Rattle.rp_events.specs.Lawful.{Lawful}
use Rattle.rp_events.specs.MaySteps.{MayStep}
use Rattle.rp_events.specs.Buffered.{Buffered, buffers_at, has_live}

-- the node of an event
abbrev pub node_in : WorldEvent → ℕ
node_in (events.Admit node range id request) = node
node_in (events.Ask node range) = node
node_in (events.Transfer node range to) = node
node_in (events.Collect node range) = node
node_in (events.Flush node range) = node
node_in (events.Tick node) = node
node_in (events.Deliver node from number) = node
node_in (events.Apply node range) = node
node_in (events.Cut node range) = node
node_in (events.Remove node range) = node
node_in (events.Peek node range key) = node
node_in (events.Restart node) = node
node_in (events.Round node) = node
node_in (events.Draw node range) = node
node_in (events.Publish node range place item) = node

-- what a collect of a range takes: what the buffer gives, where a live replica is to take it
abbrev pub taken_at : Buffered → (node range : ℕ) → List Item
taken_at b node range =
    if has_live b.nodes node range then given (buffer_of (buffers_at b node) range) else []

-- what happens at the node; a draw and a publishing are the buffer's alone
abbrev pub happening_of : Buffered → WorldEvent → Option Happening
happening_of b (events.Admit node range id request) = Some (Admit range id request)
happening_of b (events.Ask node range) = Some (Ask range)
happening_of b (events.Transfer node range to) = Some (Transfer range to)
happening_of b (events.Collect node range) = Some (Collect range (taken_at b node range))
happening_of b (events.Flush node range) = Some (Flush range)
happening_of b (events.Tick node) = Some Tick
happening_of b (events.Deliver node from number) = Some (Deliver from number)
happening_of b (events.Apply node range) = Some (Apply range)
happening_of b (events.Cut node range) = Some (Cut range)
happening_of b (events.Remove node range) = Some (Remove range)
happening_of b (events.Peek node range key) = Some (Peek range key)
happening_of b (events.Restart node) = Some Restart
happening_of b (events.Round node) = Some Round
happening_of b (events.Draw node range) = None
happening_of b (events.Publish node range place item) = None

-- what happens in an event, where something happens
abbrev pub scene_at : (node : ℕ) → Happening → Scene
scene_at node what = record { node = node; what = what }

-- something that happens at the node is lawful, and the node may take it
pub record ComesAs (b : Buffered) (node : ℕ) (what : Happening) : Type 0 where
  pub lawful : Lawful b.nodes (scene_at node what)
  pub at : Node
  pub has : node_of b.nodes node ≡ Some at
  pub event : Event AppliedState
  pub is : event_of b.nodes what ≡ Some event
  pub may : MayStep at event

abbrev pub ComesBy : Buffered → (node : ℕ) → Option Happening → Type 0
ComesBy b node None = ⊥
ComesBy b node (Some what) = ComesAs b node what

-- an event of a node may come
pub record Comes (b : Buffered) (e : WorldEvent) : Type 0 where
  pub comes : ComesBy b (node_in e) (happening_of b e)

-- an event that a script may always make in a world of so many nodes: each of a node but an admission and
-- a delivery
abbrev pub IsPlain : (nodes : ℕ) → WorldEvent → Type 0
IsPlain nodes (events.Admit node range id request) = ⊥
IsPlain nodes (events.Ask node range) = IsNode nodes node
IsPlain nodes (events.Transfer node range to) = IsNode nodes node × IsNode nodes to
IsPlain nodes (events.Collect node range) = IsNode nodes node
IsPlain nodes (events.Flush node range) = IsNode nodes node
IsPlain nodes (events.Tick node) = IsNode nodes node
IsPlain nodes (events.Deliver node from number) = ⊥
IsPlain nodes (events.Apply node range) = IsNode nodes node
IsPlain nodes (events.Cut node range) = IsNode nodes node
IsPlain nodes (events.Remove node range) = IsNode nodes node
IsPlain nodes (events.Peek node range key) = IsNode nodes node
IsPlain nodes (events.Restart node) = IsNode nodes node
IsPlain nodes (events.Round node) = IsNode nodes node
IsPlain nodes (events.Draw node range) = ⊥
IsPlain nodes (events.Publish node range place item) = ⊥

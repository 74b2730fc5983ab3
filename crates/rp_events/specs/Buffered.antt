-- A world of nodes with their proposal buffers, and what a list of its events makes of it.
use Rattle.std.specs.Prelude.{ℕ, ◌-◌, Bool, true, false, if◌then◌else◌, List, [], ◌∷◌, replicate, slice_index_or, slice_set}
use Rattle.std.specs.Option.{option_map_or}
use Rattle.rp_base.specs.declared.items.Item.{Item}
use Rattle.rp_bufcore.specs.Buffers.{Buffer, fresh, buffer_of, with_buffer, after_draw, after_publish, given, after_collect}
use Rattle.rp_events.specs.declared.world_events.WorldEvent.{WorldEvent}
use Rattle.rp_events.specs.declared.world_events.WorldEvent.TheVariants as events
use Rattle.rp_events.specs.Nodes.{Status, Absent, Live, Removed, seat}
use Rattle.rp_events.specs.Worlds.{World, first_world, node_of, Happening, Admit, Ask, Transfer, Collect, Flush, Tick, Deliver, Apply, Cut, Remove, Peek, Restart, Round}
use Rattle.rp_events.specs.Lawful.{is_lawful, happens_if}

-- the nodes, and the buffers of each node, one for each range
pub record Buffered : Type 0 where
  pub nodes : World
  pub buffers : List (List Buffer)

-- so many nodes as they start, and their buffers
abbrev pub first_buffered : (nodes : ℕ) → Buffered
first_buffered nodes = record { nodes = first_world nodes; buffers = replicate nodes fresh }

-- the buffers of a node
abbrev pub buffers_at : Buffered → (node : ℕ) → List Buffer
buffers_at b node = slice_index_or b.buffers (node - 1) fresh

-- one buffer changes
abbrev pub changed : Buffered → (node range : ℕ) → (Buffer → Buffer) → Buffered
changed b node range change = record b {
  buffers = slice_set b.buffers (node - 1)
      (with_buffer (buffers_at b node) range (change (buffer_of (buffers_at b node) range)));
}

-- an event of a node, where it is lawful
abbrev pub at_node : Buffered → (node : ℕ) → Happening → Buffered
at_node b node what = record b {
  nodes = happens_if (is_lawful b.nodes (record { node = node; what = what })) b.nodes
      (record { node = node; what = what });
}

-- a live replica is in the seat
abbrev pub is_live : Status → Bool
is_live Absent = false
is_live (Live r) = true
is_live (Removed applied) = false

abbrev pub has_live : World → (node range : ℕ) → Bool
has_live w node range = option_map_or (λ n. is_live (seat n range)) (node_of w node) false

-- a collect asks the buffer where a live replica is to take what it gives
abbrev pub collects : Buffered → (node range : ℕ) → List Item → Buffered
collects b node range taken =
    if is_lawful b.nodes (record { node = node; what = Collect range taken })
    then changed (at_node b node (Collect range taken)) node range after_collect
    else b

abbrev pub collected : Buffered → (node range : ℕ) → Buffered
collected b node range =
    if has_live b.nodes node range
    then collects b node range (given (buffer_of (buffers_at b node) range))
    else at_node b node (Collect range [])

-- an event of a world with buffers; one that is not lawful is skipped
abbrev pub buffered_step : Buffered → WorldEvent → Buffered
buffered_step b (events.Admit node range id request) = at_node b node (Admit range id request)
buffered_step b (events.Ask node range) = at_node b node (Ask range)
buffered_step b (events.Transfer node range to) = at_node b node (Transfer range to)
buffered_step b (events.Collect node range) = collected b node range
buffered_step b (events.Flush node range) = at_node b node (Flush range)
buffered_step b (events.Tick node) = at_node b node Tick
buffered_step b (events.Deliver node from number) = at_node b node (Deliver from number)
buffered_step b (events.Apply node range) = at_node b node (Apply range)
buffered_step b (events.Cut node range) = at_node b node (Cut range)
buffered_step b (events.Remove node range) = at_node b node (Remove range)
buffered_step b (events.Peek node range key) = at_node b node (Peek range key)
buffered_step b (events.Restart node) = at_node b node Restart
buffered_step b (events.Round node) = at_node b node Round
buffered_step b (events.Draw node range) = changed b node range after_draw
buffered_step b (events.Publish node range place item) =
    changed b node range (λ buffer. after_publish buffer place item)

-- the world after a list of events
abbrev pub buffered_run : Buffered → List WorldEvent → Buffered
buffered_run b [] = b
buffered_run b (e ∷ es) = buffered_run (buffered_step b e) es

-- A round that is worked out.
use Rattle.std.specs.Prelude.{List}
use Rattle.std.specs.Option.{option_map_or}
use Rattle.rp_events.specs.Nodes.{Node, first_node}
use Rattle.rp_events.specs.Worlds.{Happening, first_world, node_of, run}
use Rattle.rp_journals.specs.Asked.{all_at}

-- the only node of a world, after this happened at its start
abbrev pub left_after : List Happening → Node
left_after xs = option_map_or (λ n. n) (node_of (run (first_world 1) (all_at 1 xs)) 1) (first_node 1 1)

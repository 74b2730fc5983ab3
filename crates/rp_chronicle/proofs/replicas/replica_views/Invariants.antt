use Rattle.std.proofs.Common.{◌≡◌, map, take}
use Rattle.rp_events.specs.Nodes.{seat}
use Rattle.rp_lines.specs.Views.{status_view}
use Rattle.rp_chronicle.specs.Worlds.{world_of}
use Rattle.rp_chronicle.proofs.replicas.replica_views.Given as goal

-- what the nodes so far have
abbrev pub invariant-loop-node : goal.invariant-loop-node
invariant-loop-node g l = l.views.items ≡ map (λ n. status_view (seat n l.range)) (world_of (take l.node-index l.nodes))

use Rattle.std.proofs.Common.{◌≡◌, take}
use Rattle.std.specs.Option.{option_map}
use Rattle.rp_chronicle.specs.Worlds.{furthest_of, world_of}
use Rattle.rp_chronicle.proofs.seats.furthest.Given as goal

-- of the nodes so far, the one that has applied most
abbrev pub invariant-loop-node : goal.invariant-loop-node
invariant-loop-node g l = option_map (λ s. s.now.history) l.most ≡ furthest_of (world_of (take l.node-index l.nodes)) l.range

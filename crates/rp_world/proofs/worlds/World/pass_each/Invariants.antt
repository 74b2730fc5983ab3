use Rattle.std.proofs.Common.{◌≡◌, drop}
use Rattle.rp_lines.specs.Settling.{for_each}
use Rattle.rp_world.specs.Going.{AsMany, Going}
use Rattle.rp_world.specs.Settled.{passed}
use Rattle.rp_world.proofs.worlds.World.pass_each.Given as goal

-- what is left leads from here where all of it led from the start
abbrev pub invariant-loop-node : goal.invariant-loop-node
invariant-loop-node l = record {
  leads : for_each passed (drop l.node-index l.nodes) l.self ≡ for_each passed l.nodes l.fn.self;
  going : Going l.self;
  many : AsMany l.fn.self l.self;
}

use Rattle.std.proofs.Common.{◌≡◌, ◌-◌}
use Rattle.rp_lines.specs.Settling.{repeated}
use Rattle.rp_world.specs.Going.{AsMany, Going}
use Rattle.rp_world.specs.Settled.{rounded}
use Rattle.rp_world.proofs.worlds.World.settles.Given as goal

-- what is left leads from here where all of it led from the start
abbrev pub invariant-loop-round : goal.invariant-loop-round
invariant-loop-round l = record {
  leads : repeated (l.rounds - l._round) rounded l.self ≡ repeated l.rounds rounded l.fn.self;
  going : Going l.self;
  many : AsMany l.fn.self l.self;
}

use Rattle.std.proofs.Common.{◌≡◌, ◌-◌}
use Rattle.rp_events.specs.declared.world_events.WorldEvent.TheVariants as events
use Rattle.rp_lines.specs.Players.{did}
use Rattle.rp_lines.specs.Settling.{repeated, ticks}
use Rattle.rp_world.specs.Going.{AsMany, Going}
use Rattle.rp_world.proofs.worlds.World.ticks.Given as goal

-- what is left leads from here where all of it led from the start
abbrev pub invariant-loop-turn : goal.invariant-loop-turn
invariant-loop-turn l = record {
  leads : repeated (l.count - l._turn) (did (events.Tick l.node)) l.self ≡ ticks l.node l.count l.fn.self;
  going : Going l.self;
  many : AsMany l.fn.self l.self;
}

use Rattle.std.proofs.Common.{◌≡◌, ◌-◌}
use Rattle.rp_events.specs.declared.world_events.WorldEvent.TheVariants as events
use Rattle.rp_lines.specs.Players.{did}
use Rattle.rp_lines.specs.Settling.{applies_range, repeated}
use Rattle.rp_world.specs.Going.{AsMany, Going}
use Rattle.rp_world.proofs.worlds.World.applies_range.Given as goal

-- what is left leads from here where all of it led from the start
abbrev pub invariant-loop-turn : goal.invariant-loop-turn
invariant-loop-turn l = record {
  leads : repeated (l.left - l._turn) (did (events.Apply l.node l.range)) l.self ≡ applies_range l.node l.range l.fn.self;
  going : Going l.self;
  many : AsMany l.fn.self l.self;
}

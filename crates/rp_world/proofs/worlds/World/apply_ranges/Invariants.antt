use Rattle.std.proofs.Common.{◌≡◌, drop}
use Rattle.rp_lines.specs.Settling.{for_each, applies_range}
use Rattle.rp_world.specs.Going.{AsMany, Going}
use Rattle.rp_world.proofs.worlds.World.apply_ranges.Given as goal

-- what is left leads from here where all of it led from the start
abbrev pub invariant-loop-range : goal.invariant-loop-range
invariant-loop-range l = record {
  leads : for_each (applies_range l.node) (drop l.range-index l.ranges) l.self ≡ for_each (applies_range l.node) l.ranges l.fn.self;
  going : Going l.self;
  many : AsMany l.fn.self l.self;
}

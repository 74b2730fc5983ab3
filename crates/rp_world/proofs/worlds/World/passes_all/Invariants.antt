use Rattle.std.proofs.Common.{◌≡◌, ◌-◌}
use Rattle.rp_lines.specs.Settling.{for_each, numbers_from, passes_all, passes_numbered}
use Rattle.rp_world.specs.Going.{AsMany, Going}
use Rattle.rp_world.proofs.worlds.World.passes_all.Given as goal

-- what is left leads from here where all of it led from the start
abbrev pub invariant-loop-number : goal.invariant-loop-number
invariant-loop-number l = record {
  leads : for_each (passes_numbered l.sender) (numbers_from l.number (l.end - l.number)) l.self ≡ passes_all l.sender l.fn.self;
  going : Going l.self;
  many : AsMany l.fn.self l.self;
}

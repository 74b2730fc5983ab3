use Rattle.std.proofs.Common.{◌≡◌}
use Rattle.rp_switch.specs.Openings.{first_slots}
use Rattle.rp_switch.proofs.openings.slots_of.Given as goal

-- so many cells are there
abbrev pub invariant-loop-cell : goal.invariant-loop-cell
invariant-loop-cell g l = l.slots.items ≡ first_slots l.fn.nodes.items l._cell

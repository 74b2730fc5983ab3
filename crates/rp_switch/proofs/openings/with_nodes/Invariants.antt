use Rattle.std.proofs.Common.{◌≡◌, map}
use Rattle.rp_switch.specs.declared.slots.Slot.TheVariants.{Body}
use Rattle.rp_switch.proofs.openings.with_nodes.Given as goal

-- the nodes so far lie in their slots
abbrev pub invariant-loop-node : goal.invariant-loop-node
invariant-loop-node g l = l.slots.items ≡ map Body l.yielded

use Rattle.std.proofs.Common.{rules, ◌∙◌}
use Rattle.rp_switch.proofs.Opening.{one_more, no_cell}
use Rattle.rp_switch.proofs.openings.slots_of.Goals as goal

pub loop-cell-init : goal.loop-cell-init
loop-cell-init g c = c.in_ok-slots.ensures ∙ no_cell c.args.nodes.items

pub loop-cell-preserved : goal.loop-cell-preserved
loop-cell-preserved g c = one_more c.args.nodes.items c.loop-cell._cell c.loop-cell.slots.items _ c.loop-cell.invariant (search rules)

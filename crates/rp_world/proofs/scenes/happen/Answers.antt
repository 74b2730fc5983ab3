use Rattle.std.proofs.Common.{sym, subst}
use Rattle.rp_node.specs.Several.{HasThatMay}
use Rattle.rp_world.proofs.Stepping.{may_step, stepped_ok}
use Rattle.rp_world.proofs.scenes.happen.Goals as goal

pub step-requires : goal.step-requires
step-requires c =
    subst (λ node. HasThatMay c.args.nodes.now node c.in_ok-happens.happens) (sym c.node_of.ensures)
    (may_step c.args.nodes.now c.args.event.now c.in_ok-happens.happens c.requires c.in_ok-happens.ensures)

pub returns-clause-ok : goal.returns-clause-ok
returns-clause-ok c =
    stepped_ok c.args.nodes.now c.args.event.now c.in_ok-happens.happens c.step.new.self c.node_of.result c.step.result c.requires c.in_ok-happens.ensures c.node_of.ensures c.step.ensures.ok

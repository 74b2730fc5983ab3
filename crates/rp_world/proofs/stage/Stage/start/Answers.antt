use Rattle.rp_world.proofs.Starting.{weighed_first}
use Rattle.rp_world.proofs.stage.Stage.start.Goals as goal

pub invariant_of-result : goal.invariant_of-result
invariant_of-result c = weighed_first c.args.nodes c.in_ok-first_nodes.field-0 c.in_ok-first_nodes.ensures

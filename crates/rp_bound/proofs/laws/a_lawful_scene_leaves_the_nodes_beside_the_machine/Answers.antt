use Rattle.rp_bound.proofs.Along.{stands_next}
use Rattle.rp_bound.proofs.laws.a_lawful_scene_leaves_the_nodes_beside_the_machine.Goals as goal

pub returns : goal.returns
returns c = stands_next

use Rattle.rp_bound.proofs.Next.{bound_next}
use Rattle.rp_bound.proofs.laws.a_turned_scene_leaves_the_nodes_bound.Goals as goal

pub returns : goal.returns
returns c = bound_next

use Rattle.rp_seats.proofs.laws.each_scene_leaves_the_nodes_in_shape.Goals as goal
use Rattle.rp_seats.proofs.Shaped.{shaped_scene}

pub returns : goal.returns
returns c = shaped_scene

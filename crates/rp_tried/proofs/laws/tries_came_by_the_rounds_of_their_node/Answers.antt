use Rattle.rp_tried.proofs.laws.tries_came_by_the_rounds_of_their_node.Goals as goal
use Rattle.rp_tried.proofs.Coming.{came_by}

pub returns : goal.returns
returns c = came_by

use Rattle.rp_seats.proofs.laws.an_event_of_a_node_is_its_doings.Goals as goal
use Rattle.rp_seats.proofs.Nodes.{node_site}

pub returns : goal.returns
returns c nodes range start node below n e taken shaped = node_site nodes range start node below n e taken shaped

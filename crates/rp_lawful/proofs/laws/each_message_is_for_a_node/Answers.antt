use Rattle.rp_lawful.proofs.laws.each_message_is_for_a_node.Goals as goal
use Rattle.rp_lawful.proofs.Playing.{for_a_node}

pub returns : goal.returns
returns c = for_a_node

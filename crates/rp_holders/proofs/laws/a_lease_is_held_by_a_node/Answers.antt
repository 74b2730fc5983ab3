use Rattle.rp_holders.proofs.laws.a_lease_is_held_by_a_node.Goals as goal
use Rattle.rp_holders.proofs.Leases.{held_by_node}

pub returns : goal.returns
returns c = held_by_node

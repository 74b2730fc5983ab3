use Rattle.rp_rangesafe.proofs.Barriers.{one_node, restart_parts}
use Rattle.rp_rangesafe.proofs.laws.one_sequence_is_admitted_at_one_node.Goals as goal

pub returns : goal.returns
returns c = record { node = one_node; between = restart_parts }

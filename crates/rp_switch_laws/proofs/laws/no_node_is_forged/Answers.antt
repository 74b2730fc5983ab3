use Rattle.rp_switch_laws.proofs.laws.no_node_is_forged.Goals as goal
use Rattle.rp_switch_laws.proofs.Barred.{its_number, gives_grown}

pub returns : goal.returns
returns c = record { number = its_number; drops = gives_grown }

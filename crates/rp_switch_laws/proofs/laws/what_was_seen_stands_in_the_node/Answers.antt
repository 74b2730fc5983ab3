use Rattle.rp_switch_laws.proofs.laws.what_was_seen_stands_in_the_node.Goals as goal
use Rattle.rp_switch_laws.proofs.Barred.{seen_grows}

pub returns : goal.returns
returns c = seen_grows

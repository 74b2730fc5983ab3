use Rattle.rp_switch_laws.proofs.laws.a_split_hands_out_one_right.Goals as goal
use Rattle.rp_switch_laws.proofs.Barred.{one_right}

pub returns : goal.returns
returns c = one_right

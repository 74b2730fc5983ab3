use Rattle.rp_rangesafe.proofs.OneRange.{stands_within, none_unborn}
use Rattle.rp_rangesafe.proofs.laws.a_node_stands_in_the_list.Goals as goal

pub returns : goal.returns
returns c = record { within = stands_within; maxima = none_unborn }

use Rattle.rp_recorded.proofs.Lists.{one_list}
use Rattle.rp_recorded.proofs.laws.each_range_has_one_list.Goals as goal

pub returns : goal.returns
returns c = one_list

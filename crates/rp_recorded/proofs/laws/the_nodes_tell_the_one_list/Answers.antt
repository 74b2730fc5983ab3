use Rattle.rp_recorded.proofs.Lists.{only_one, all_applied}
use Rattle.rp_recorded.proofs.laws.the_nodes_tell_the_one_list.Goals as goal

pub returns : goal.returns
returns c = record { only = only_one; applied = all_applied }

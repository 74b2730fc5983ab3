use Rattle.rp_told.proofs.laws.each_application_leaves_one_fewer.Goals as goal
use Rattle.rp_told.proofs.Looking.{left_fewer}

pub returns : goal.returns
returns c = left_fewer

use Rattle.rp_told.proofs.laws.the_weight_grows_by_what_is_sent.Goals as goal
use Rattle.rp_told.proofs.Looking.{weight_now}

pub returns : goal.returns
returns c = weight_now

use Rattle.rp_bound.proofs.Below.{opened_below}
use Rattle.rp_bound.proofs.laws.ranges_are_below_eight.Goals as goal

pub returns : goal.returns
returns c = opened_below

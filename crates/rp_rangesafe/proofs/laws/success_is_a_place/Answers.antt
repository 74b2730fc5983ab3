use Rattle.rp_rangesafe.proofs.laws.success_is_a_place.Goals as goal
use Rattle.rp_rangesafe.proofs.OneRange.{success_is_placed}

pub returns : goal.returns
returns c = success_is_placed

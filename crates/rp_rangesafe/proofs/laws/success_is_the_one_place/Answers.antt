use Rattle.rp_rangesafe.proofs.laws.success_is_the_one_place.Goals as goal
use Rattle.rp_rangesafe.proofs.Joint.{one_place_of_all}

pub returns : goal.returns
returns c = one_place_of_all

use Rattle.rp_rangesafe.proofs.laws.at_most_one_place.Goals as goal
use Rattle.rp_rangesafe.proofs.Once.{once_over}

pub returns : goal.returns
returns c = once_over

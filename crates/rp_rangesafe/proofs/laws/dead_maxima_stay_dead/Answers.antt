use Rattle.rp_rangesafe.proofs.laws.dead_maxima_stay_dead.Goals as goal
use Rattle.rp_rangesafe.proofs.OneRange.{dead_for_good}

pub returns : goal.returns
returns c = dead_for_good

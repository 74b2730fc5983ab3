use Rattle.rp_rangesafe.proofs.laws.maxima_are_dead_by_stage.Goals as goal
use Rattle.rp_rangesafe.proofs.OneRange.{dead_by_stage}

pub returns : goal.returns
returns c = dead_by_stage

use Rattle.rp_rangesafe.proofs.laws.numbers_never_fall.Goals as goal
use Rattle.rp_rangesafe.proofs.OneRange.{numbers_rise}

pub returns : goal.returns
returns c = numbers_rise

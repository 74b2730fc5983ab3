use Rattle.rp_rangesafe.proofs.laws.an_overtaken_attempt_was_passed.Goals as goal
use Rattle.rp_rangesafe.proofs.OneRange.{overtaken_passed}

pub returns : goal.returns
returns c = overtaken_passed

use Rattle.rp_rangesafe.proofs.Joint.{one_range}
use Rattle.rp_rangesafe.proofs.laws.an_attempt_is_in_one_range.Goals as goal

pub returns : goal.returns
returns c = one_range

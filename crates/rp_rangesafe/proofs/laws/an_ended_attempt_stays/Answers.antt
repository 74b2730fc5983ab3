use Rattle.rp_rangesafe.proofs.OneRange.{ended_stays}
use Rattle.rp_rangesafe.proofs.laws.an_ended_attempt_stays.Goals as goal

pub returns : goal.returns
returns c = ended_stays

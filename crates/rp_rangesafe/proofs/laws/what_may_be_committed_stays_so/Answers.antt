use Rattle.rp_rangesafe.proofs.Admissions.{may_commit_later}
use Rattle.rp_rangesafe.proofs.laws.what_may_be_committed_stays_so.Goals as goal

pub returns : goal.returns
returns c = may_commit_later

use Rattle.rp_bound.proofs.Admissions.{begins_lawful}
use Rattle.rp_bound.proofs.laws.a_lawful_admission_may_begin.Goals as goal

pub returns : goal.returns
returns c = begins_lawful

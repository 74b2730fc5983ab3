use Rattle.rp_rangesafe.proofs.Rights.{number_along}
use Rattle.rp_rangesafe.proofs.laws.a_range_keeps_its_number.Goals as goal

pub returns : goal.returns
returns c = number_along

use Rattle.rp_request.proofs.Numbers.{onward_all}
use Rattle.rp_request.proofs.laws.numbers_never_fall.Goals as goal

pub returns : goal.returns
returns c = onward_all

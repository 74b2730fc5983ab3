use Rattle.rp_request.proofs.Once.{index_by_once}
use Rattle.rp_request.proofs.laws.at_most_once_is_one_place.Goals as goal

pub returns : goal.returns
returns c = index_by_once

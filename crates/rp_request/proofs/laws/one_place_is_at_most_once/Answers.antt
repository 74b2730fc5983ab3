use Rattle.rp_request.proofs.Once.{once_by_index}
use Rattle.rp_request.proofs.laws.one_place_is_at_most_once.Goals as goal

pub returns : goal.returns
returns c = once_by_index

use Rattle.rp_request.proofs.Inside.{inside}
use Rattle.rp_request.proofs.laws.a_batch_writes_what_is_covered.Goals as goal

pub returns : goal.returns
returns c = inside

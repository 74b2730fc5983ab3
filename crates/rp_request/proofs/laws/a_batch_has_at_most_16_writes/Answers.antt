use Rattle.rp_request.proofs.Few.{few_writes}
use Rattle.rp_request.proofs.laws.a_batch_has_at_most_16_writes.Goals as goal

pub returns : goal.returns
returns c = few_writes

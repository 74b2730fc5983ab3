use Rattle.rp_request.proofs.ReadParts.{evaluated_reads}
use Rattle.rp_request.proofs.laws.evaluation_reads_what_it_covers.Goals as goal

pub returns : goal.returns
returns c = evaluated_reads

use Rattle.rp_request.proofs.ReadParts.{does_there}
use Rattle.rp_request.proofs.laws.a_batch_does_the_effect_where_tables_agree.Goals as goal

pub returns : goal.returns
returns c = does_there

use Rattle.rp_request.proofs.Does.{evaluated_does}
use Rattle.rp_request.proofs.laws.a_batch_does_the_effect.Goals as goal

pub returns : goal.returns
returns c = evaluated_does

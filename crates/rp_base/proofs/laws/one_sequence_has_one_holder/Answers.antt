use Rattle.rp_base.proofs.LeaseLaws.{follows_holder}
use Rattle.rp_base.proofs.laws.one_sequence_has_one_holder.Goals as goal

pub returns : goal.returns
returns c = λ old new f e. (follows_holder old new f e).0

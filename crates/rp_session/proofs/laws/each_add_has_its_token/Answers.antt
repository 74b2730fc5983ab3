use Rattle.rp_session.proofs.TokenLaws.{one_add}
use Rattle.rp_session.proofs.laws.each_add_has_its_token.Goals as goal

pub returns : goal.returns
returns c = one_add

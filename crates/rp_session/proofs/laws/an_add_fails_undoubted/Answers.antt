use Rattle.rp_session.proofs.RunLaws.{fails_undoubted}
use Rattle.rp_session.proofs.laws.an_add_fails_undoubted.Goals as goal

pub returns : goal.returns
returns c = fails_undoubted

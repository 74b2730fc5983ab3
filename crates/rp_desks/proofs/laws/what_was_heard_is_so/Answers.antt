use Rattle.rp_desks.proofs.laws.what_was_heard_is_so.Goals as goal
use Rattle.rp_desks.proofs.Waits.{heard_so}

pub returns : goal.returns
returns c = heard_so

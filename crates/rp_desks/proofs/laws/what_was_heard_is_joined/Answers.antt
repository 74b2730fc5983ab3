use Rattle.rp_desks.proofs.laws.what_was_heard_is_joined.Goals as goal
use Rattle.rp_desks.proofs.Waits.{heard_left, heard_right}

pub returns-clause-left : goal.returns-clause-left
returns-clause-left c = heard_left

pub returns-clause-right : goal.returns-clause-right
returns-clause-right c = heard_right

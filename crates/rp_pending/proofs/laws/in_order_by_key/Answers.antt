use Rattle.rp_pending.proofs.Ascending.{ascending, in_their_order}
use Rattle.rp_pending.proofs.laws.in_order_by_key.Goals as goal

pub returns-clause-ascends : goal.returns-clause-ascends
returns-clause-ascends c = ascending

pub returns-clause-keeps : goal.returns-clause-keeps
returns-clause-keeps c = in_their_order

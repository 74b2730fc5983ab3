use Rattle.rp_flush.proofs.Numbering.{follows}
use Rattle.rp_flush.proofs.laws.indexes_follow.Goals as goal

pub returns : goal.returns
returns c = follows

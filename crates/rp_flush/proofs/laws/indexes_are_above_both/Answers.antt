use Rattle.rp_flush.proofs.Numbering.{above}
use Rattle.rp_flush.proofs.laws.indexes_are_above_both.Goals as goal

pub returns : goal.returns
returns c = above

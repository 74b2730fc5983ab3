use Rattle.rp_flush.proofs.Numbering.{rises}
use Rattle.rp_flush.proofs.laws.indexes_rise.Goals as goal

pub returns : goal.returns
returns c = rises

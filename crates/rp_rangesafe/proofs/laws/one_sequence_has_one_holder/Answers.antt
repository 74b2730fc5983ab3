use Rattle.rp_rangesafe.proofs.laws.one_sequence_has_one_holder.Goals as goal
use Rattle.rp_rangesafe.proofs.OneRange.{holder_by_sequence}

pub returns : goal.returns
returns c = holder_by_sequence

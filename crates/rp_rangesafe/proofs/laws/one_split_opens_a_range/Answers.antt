use Rattle.rp_rangesafe.proofs.laws.one_split_opens_a_range.Goals as goal
use Rattle.rp_rangesafe.proofs.Splits.{one_origin}

pub returns : goal.returns
returns c = one_origin

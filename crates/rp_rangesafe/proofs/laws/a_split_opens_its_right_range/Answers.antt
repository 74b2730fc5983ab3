use Rattle.rp_rangesafe.proofs.laws.a_split_opens_its_right_range.Goals as goal
use Rattle.rp_rangesafe.proofs.Splits.{split_opens}

pub returns : goal.returns
returns c = split_opens

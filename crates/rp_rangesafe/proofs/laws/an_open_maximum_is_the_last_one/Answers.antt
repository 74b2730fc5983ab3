use Rattle.rp_rangesafe.proofs.OneRange.{open_positive}
use Rattle.rp_rangesafe.proofs.Lasts.{open_is_last}
use Rattle.rp_rangesafe.proofs.laws.an_open_maximum_is_the_last_one.Goals as goal

pub returns : goal.returns
returns c = record { last = open_is_last; positive = open_positive }

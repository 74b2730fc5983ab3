use Rattle.rp_rangesafe.proofs.Once.{once_in_all, once_in_each}
use Rattle.rp_rangesafe.proofs.laws.at_most_once.Goals as goal

pub returns : goal.returns
returns c = record { over_all = once_in_all; in_each = once_in_each }

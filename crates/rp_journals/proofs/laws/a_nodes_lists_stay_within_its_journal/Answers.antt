use Rattle.rp_journals.proofs.laws.a_nodes_lists_stay_within_its_journal.Goals as goal
use Rattle.rp_journals.proofs.Bounding.{low}
use Rattle.rp_journals.proofs.Within.{all_within}

pub returns : goal.returns
returns c = record { within = all_within; low = low }

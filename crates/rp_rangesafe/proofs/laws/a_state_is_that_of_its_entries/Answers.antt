use Rattle.rp_rangesafe.proofs.Folds.{state_of_entries}
use Rattle.rp_rangesafe.proofs.laws.a_state_is_that_of_its_entries.Goals as goal

pub returns : goal.returns
returns c = state_of_entries

use Rattle.rp_journals.proofs.laws.the_outcome_is_that_of_its_node.Goals as goal
use Rattle.rp_journals.proofs.Waiting.{outcome_here, answered_entry}

pub returns : goal.returns
returns c = record { here = outcome_here; answer = answered_entry }

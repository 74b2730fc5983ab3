use Rattle.rp_journals.proofs.laws.each_ambiguous_outcome_has_its_cause.Goals as goal
use Rattle.rp_journals.proofs.Telling.{true_ends, ambiguous}

pub returns : goal.returns
returns c = record { ends = true_ends; ambiguous = ambiguous }

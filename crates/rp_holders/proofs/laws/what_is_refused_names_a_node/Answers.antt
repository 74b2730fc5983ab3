use Rattle.rp_holders.proofs.laws.what_is_refused_names_a_node.Goals as goal
use Rattle.rp_holders.proofs.Ends.{outcome_ends, refused_names}

pub returns-clause-outcome : goal.returns-clause-outcome
returns-clause-outcome c = outcome_ends

pub returns-clause-admission : goal.returns-clause-admission
returns-clause-admission c = refused_names

use Rattle.rp_journals.proofs.laws.events_of_a_node_happen_elsewhere.Goals as goal
use Rattle.rp_journals.proofs.Elsewhere.{happens_there}

pub returns : goal.returns
returns c = λ w other node xs. happens_there xs w other node

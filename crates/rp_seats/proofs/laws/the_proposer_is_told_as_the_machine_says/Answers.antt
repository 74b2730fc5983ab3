use Rattle.rp_seats.proofs.laws.the_proposer_is_told_as_the_machine_says.Goals as goal
use Rattle.rp_seats.proofs.Told.{proposer_beside}

pub returns : goal.returns
returns c node attempts r told ok p = proposer_beside attempts node r told ok p

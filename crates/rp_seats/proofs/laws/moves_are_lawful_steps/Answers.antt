use Rattle.rp_seats.proofs.laws.moves_are_lawful_steps.Goals as goal
use Rattle.rp_seats.proofs.Moves.{moves_steps}

pub returns : goal.returns
returns c node h told ticks round t moves above lai ok fin = moves_steps node h told ticks round t moves above lai ok fin

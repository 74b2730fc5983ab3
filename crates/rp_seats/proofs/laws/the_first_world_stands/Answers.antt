use Rattle.rp_seats.proofs.laws.the_first_world_stands.Goals as goal
use Rattle.rp_seats.proofs.Opens.{first_shaped, first_ok}

pub returns : goal.returns
returns c = record { shaped = first_shaped; range = first_ok }

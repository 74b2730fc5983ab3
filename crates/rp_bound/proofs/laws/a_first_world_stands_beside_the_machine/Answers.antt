use Rattle.rp_bound.proofs.Along.{first_stands}
use Rattle.rp_bound.proofs.laws.a_first_world_stands_beside_the_machine.Goals as goal

pub returns : goal.returns
returns c = first_stands

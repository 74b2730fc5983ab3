use Rattle.rp_bound.proofs.Along.{stands_later}
use Rattle.rp_bound.proofs.laws.a_later_world_stands_beside_the_machine.Goals as goal

pub returns : goal.returns
returns c = stands_later

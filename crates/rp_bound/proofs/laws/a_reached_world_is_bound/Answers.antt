use Rattle.rp_bound.proofs.Along.{reached_stands}
use Rattle.rp_bound.proofs.laws.a_reached_world_is_bound.Goals as goal

pub returns : goal.returns
returns c = reached_stands

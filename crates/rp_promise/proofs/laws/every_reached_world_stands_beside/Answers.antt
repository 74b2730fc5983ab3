use Rattle.rp_promise.proofs.Along.{reached_beside}
use Rattle.rp_promise.proofs.laws.every_reached_world_stands_beside.Goals as goal

pub returns : goal.returns
returns c = reached_beside

use Rattle.rp_promise.proofs.laws.a_world_keeps_the_promise.Goals as goal
use Rattle.rp_promise.proofs.Promised.{promised}

pub returns : goal.returns
returns c = λ lists nodes w m seen k. promised lists nodes w m seen k

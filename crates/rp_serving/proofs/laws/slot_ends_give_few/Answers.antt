use Rattle.rp_serving.proofs.laws.slot_ends_give_few.Goals as goal
use Rattle.rp_serving.proofs.Giving.{collects_few}

pub returns : goal.returns
returns c = λ old range items new told. collects_few _ _ _ items told

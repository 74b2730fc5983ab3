use Rattle.rp_rangesafe.proofs.laws.effect_at_its_place.Goals as goal
use Rattle.rp_rangesafe.proofs.OneRange.{effect_at_place}

pub returns : goal.returns
returns c = effect_at_place

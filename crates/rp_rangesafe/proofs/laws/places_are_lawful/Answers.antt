use Rattle.rp_rangesafe.proofs.laws.places_are_lawful.Goals as goal
use Rattle.rp_rangesafe.proofs.OneRange.{lawful_place}

pub returns : goal.returns
returns c = lawful_place

use Rattle.rp_rangesafe.proofs.laws.refused_has_no_place_in_any_range.Goals as goal
use Rattle.rp_rangesafe.proofs.Joint.{refused_nowhere}

pub returns : goal.returns
returns c = refused_nowhere

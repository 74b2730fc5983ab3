use Rattle.rp_rangesafe.proofs.laws.a_place_is_recorded.Goals as goal
use Rattle.rp_rangesafe.proofs.Joint.{place_recorded, place_listed}

pub returns : goal.returns
returns c = record { recorded = place_recorded; listed = place_listed }

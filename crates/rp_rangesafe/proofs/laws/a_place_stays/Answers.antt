use Rattle.rp_rangesafe.proofs.Runs.{place_stays}
use Rattle.rp_rangesafe.proofs.laws.a_place_stays.Goals as goal

pub returns : goal.returns
returns c = place_stays

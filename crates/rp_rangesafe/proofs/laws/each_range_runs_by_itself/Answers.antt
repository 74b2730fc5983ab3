use Rattle.rp_rangesafe.proofs.Joint.{range_reached, range_goes_on, owner_stays}
use Rattle.rp_rangesafe.proofs.laws.each_range_runs_by_itself.Goals as goal

pub returns : goal.returns
returns c = record { reached = range_reached; goes_on = range_goes_on; owner = owner_stays }

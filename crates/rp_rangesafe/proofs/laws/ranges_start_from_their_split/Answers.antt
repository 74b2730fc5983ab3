use Rattle.rp_rangesafe.proofs.laws.ranges_start_from_their_split.Goals as goal
use Rattle.rp_rangesafe.proofs.Rights.{ranges_start, lai_at_start}

pub returns : goal.returns
returns c = record { start = ranges_start; unapplied = lai_at_start }

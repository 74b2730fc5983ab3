use Rattle.rp_told.proofs.laws.what_is_not_the_latest_never_is_again.Goals as goal
use Rattle.rp_told.proofs.Latests.{never_latest}

pub returns : goal.returns
returns c = never_latest

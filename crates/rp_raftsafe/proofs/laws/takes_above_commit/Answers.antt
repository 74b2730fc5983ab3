use Rattle.rp_raftsafe.proofs.laws.takes_above_commit.Goals as goal
use Rattle.rp_raftsafe.proofs.Snapped.{takes_above_holds, step_takes_above_holds}

pub returns : goal.returns
returns g c = record { message = takes_above_holds g.row.S.Denot; step = step_takes_above_holds g.row.S.Denot }

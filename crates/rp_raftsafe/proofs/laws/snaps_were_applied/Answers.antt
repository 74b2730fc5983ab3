use Rattle.rp_raftsafe.proofs.laws.snaps_were_applied.Goals as goal
use Rattle.rp_raftsafe.proofs.Snapped.{snaps_were_applied_holds}

pub returns : goal.returns
returns g c = snaps_were_applied_holds g.row.S.Denot

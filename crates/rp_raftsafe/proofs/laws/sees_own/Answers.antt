use Rattle.rp_raftsafe.proofs.laws.sees_own.Goals as goal
use Rattle.rp_raftsafe.proofs.Seen.{sees_own_holds, starts_nowhere_holds}

pub returns : goal.returns
returns g c = record { run = sees_own_holds g.row.S.Denot; start = starts_nowhere_holds g.row.S.Denot }

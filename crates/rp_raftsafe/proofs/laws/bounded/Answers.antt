use Rattle.rp_raftsafe.proofs.laws.bounded.Goals as goal
use Rattle.rp_raftsafe.proofs.Bounded.{bounded_holds}

pub returns : goal.returns
returns g c = bounded_holds g.row.S.Denot

use Rattle.rp_raftsafe.proofs.laws.events_allowed.Goals as goal
use Rattle.rp_raftsafe.proofs.Allow.{events_allowed_holds}

pub returns : goal.returns
returns g c = events_allowed_holds g.row.S.Denot

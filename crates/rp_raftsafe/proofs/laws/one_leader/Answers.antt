use Rattle.rp_raftsafe.proofs.laws.one_leader.Goals as goal
use Rattle.rp_raftsafe.proofs.Agree.{one_leader_holds}

pub returns : goal.returns
returns g c = one_leader_holds g.row.S.Denot

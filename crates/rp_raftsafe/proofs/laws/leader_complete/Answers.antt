use Rattle.rp_raftsafe.proofs.laws.leader_complete.Goals as goal
use Rattle.rp_raftsafe.proofs.Agree.{leader_complete_holds}

pub returns : goal.returns
returns g c = leader_complete_holds g.row.S.Denot

use Rattle.rp_raftsafe.proofs.laws.commits_agree.Goals as goal
use Rattle.rp_raftsafe.proofs.Agree.{commits_agree_holds}

pub returns : goal.returns
returns g c = commits_agree_holds g.row.S.Denot

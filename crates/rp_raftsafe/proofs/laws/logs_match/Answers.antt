use Rattle.rp_raftsafe.proofs.laws.logs_match.Goals as goal
use Rattle.rp_raftsafe.proofs.Agree.{logs_match_holds}

pub returns : goal.returns
returns g c = logs_match_holds g.row.S.Denot

use Rattle.rp_raftsafe.proofs.laws.appends_fit.Goals as goal
use Rattle.rp_raftsafe.proofs.Agree.{appends_fit_holds}

pub returns : goal.returns
returns g c = appends_fit_holds g.row.S.Denot

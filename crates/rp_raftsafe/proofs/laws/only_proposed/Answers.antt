use Rattle.rp_raftsafe.proofs.laws.only_proposed.Goals as goal
use Rattle.rp_raftsafe.proofs.Known.{only_proposed_holds}

pub returns : goal.returns
returns g c = only_proposed_holds g.row.S.Denot

use Rattle.rp_raftsafe.proofs.laws.one_list.Goals as goal
use Rattle.rp_raftsafe.proofs.Known.{one_list_holds}

pub returns : goal.returns
returns g c = one_list_holds g.row.S.Denot

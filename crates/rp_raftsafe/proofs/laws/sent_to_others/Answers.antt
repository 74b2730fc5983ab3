use Rattle.rp_raftsafe.proofs.laws.sent_to_others.Goals as goal
use Rattle.rp_raftsafe.proofs.Agree.{sent_to_others_holds}

pub returns : goal.returns
returns g c = sent_to_others_holds g.row.S.Denot

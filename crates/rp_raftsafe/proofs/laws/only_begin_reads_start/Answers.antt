use Rattle.rp_raftsafe.proofs.laws.only_begin_reads_start.Goals as goal
use Rattle.rp_raftsafe.proofs.Started.{start_unread_holds, starts_unread_holds, shut_unread_holds}

pub returns : goal.returns
returns g c = record { one = start_unread_holds g.row.S.Denot; many = starts_unread_holds g.row.S.Denot; shut = shut_unread_holds g.row.S.Denot }

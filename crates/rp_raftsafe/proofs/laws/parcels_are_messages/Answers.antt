use Rattle.rp_raftsafe.proofs.laws.parcels_are_messages.Goals as goal
use Rattle.rp_raftsafe.proofs.Sites.{parcels_are_messages_holds, views_of_hosts_holds}

pub returns : goal.returns
returns g c = record { message = parcels_are_messages_holds g.row.S.Denot; view = views_of_hosts_holds g.row.S.Denot }

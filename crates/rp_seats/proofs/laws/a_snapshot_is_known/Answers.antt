use Rattle.rp_seats.proofs.laws.a_snapshot_is_known.Goals as goal
use Rattle.rp_seats.proofs.Jumps.{snapshot_known}

pub returns : goal.returns
returns c nodes range s one seen w h ok from to term index index_term snapshot sent =
    snapshot_known nodes range s one seen w h ok from to term index index_term snapshot sent

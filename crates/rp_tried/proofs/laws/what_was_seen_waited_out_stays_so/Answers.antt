use Rattle.rp_tried.proofs.laws.what_was_seen_waited_out_stays_so.Goals as goal
use Rattle.rp_tried.proofs.Seen.{seen_waited, seen_waited_later}

pub returns-clause-now : goal.returns-clause-now
returns-clause-now c = seen_waited

pub returns-clause-later : goal.returns-clause-later
returns-clause-later c = seen_waited_later

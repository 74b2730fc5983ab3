use Rattle.rp_seats.proofs.laws.what_ended_is_told.Goals as goal
use Rattle.rp_seats.proofs.Outcomes.{all_told_so}

pub returns : goal.returns
returns c n ended ends each id = all_told_so n ended ends each id

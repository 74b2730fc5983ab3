use Rattle.rp_race.proofs.laws.what_was_waited_stays.Goals as goal
use Rattle.rp_race.proofs.Waited.{waited_now, waited_later, seen_not_less}

pub returns : goal.returns
returns c = record { now = waited_now; later = waited_later; seen = seen_not_less }

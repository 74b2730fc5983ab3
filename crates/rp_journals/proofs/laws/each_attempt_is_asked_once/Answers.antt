use Rattle.rp_journals.proofs.laws.each_attempt_is_asked_once.Goals as goal
use Rattle.rp_journals.proofs.Asking.{asked_once, times_at_most_once}

pub returns : goal.returns
returns c = record { place = asked_once; times = times_at_most_once }

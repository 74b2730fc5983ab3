use Rattle.rp_rangesafe.proofs.OneRange.{restarted_own}
use Rattle.rp_rangesafe.proofs.Lasts.{restarted_last}
use Rattle.rp_rangesafe.proofs.laws.a_restarted_attempt_has_its_last_maximum.Goals as goal

pub returns : goal.returns
returns c = record { own = restarted_own; last = restarted_last }

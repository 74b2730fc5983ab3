use Rattle.rp_racelines.proofs.Longest.{not_longer}
use Rattle.rp_racelines.proofs.laws.no_attempt_was_pending_longer.Goals as goal

pub returns : goal.returns
returns c = not_longer

use Rattle.rp_race.proofs.laws.what_was_waited_was_pending.Goals as goal
use Rattle.rp_race.proofs.Pended.{was_pending}

pub returns : goal.returns
returns c = was_pending

use Rattle.rp_lawful.proofs.laws.a_message_for_nobody_is_skipped.Goals as goal
use Rattle.rp_lawful.proofs.Coming.{nobody_skipped}

pub returns : goal.returns
returns c = nobody_skipped

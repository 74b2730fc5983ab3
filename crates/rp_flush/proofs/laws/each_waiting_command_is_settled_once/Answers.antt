use Rattle.rp_flush.proofs.Shares.{settled_once}
use Rattle.rp_flush.proofs.laws.each_waiting_command_is_settled_once.Goals as goal

pub returns : goal.returns
returns c = settled_once

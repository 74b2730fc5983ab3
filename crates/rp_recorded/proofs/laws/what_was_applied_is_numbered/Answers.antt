use Rattle.rp_recorded.proofs.Descs.{numbered}
use Rattle.rp_recorded.proofs.laws.what_was_applied_is_numbered.Goals as goal

pub returns : goal.returns
returns c = numbered

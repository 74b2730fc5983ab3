use Rattle.rp_journals.proofs.laws.few_payloads_are_handed_to_raft.Goals as goal
use Rattle.rp_journals.proofs.Handing.{handed_few}

pub returns : goal.returns
returns c = handed_few

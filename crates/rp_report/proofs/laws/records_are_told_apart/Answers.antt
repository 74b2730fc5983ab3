use Rattle.rp_report.proofs.ItemWords.{one_record}
use Rattle.rp_report.proofs.laws.records_are_told_apart.Goals as goal

pub returns : goal.returns
returns c = one_record

use Rattle.rp_report.proofs.ReportLines.{one_report}
use Rattle.rp_report.proofs.laws.reports_tell_their_records.Goals as goal

pub returns : goal.returns
returns c = one_report

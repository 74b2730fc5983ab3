-- What an audit of bytes says.
use Rattle.std.specs.Prelude.{◌≡◌, ℕ, List, Result, Ok, Err}
use Rattle.rp_reread.specs.Reading.{IsNoJson, IsReportIn, IsOtherJson}
use Rattle.rp_reread.specs.declared.reports.Report.{Report}
use Rattle.rp_auditor.specs.Audits.{judged}
use Rattle.rp_auditor.specs.declared.verdicts.AuditFault.{AuditFault}
use Rattle.rp_auditor.specs.declared.verdicts.AuditFault.TheVariants.{NotJson, NotReport, NoMemory}
use Rattle.rp_auditor.specs.declared.verdicts.Verdict.{Verdict}

-- the verdict is that on the report which the bytes are the JSON of
abbrev pub IsVerdictOn : List ℕ → Verdict → Type 0
IsVerdictOn bytes v = (r : Report) × IsReportIn bytes r × (v ≡ judged r)

-- the verdict, or why there is none, but for want of memory
abbrev pub Audits : List ℕ → Result Verdict AuditFault → Type 0
Audits bytes (Ok v) = IsVerdictOn bytes v
Audits bytes (Err NotJson) = IsNoJson bytes
Audits bytes (Err NotReport) = IsOtherJson bytes
Audits bytes (Err NoMemory) = Unit {0}

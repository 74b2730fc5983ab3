-- Why there is no verdict.
use Rattle.rp_reread.specs.declared.faults.ReadFault.{ReadFault}
use Rattle.rp_reread.specs.declared.faults.ReadFault.TheVariants as reads
use Rattle.rp_auditor.specs.declared.verdicts.AuditFault.{AuditFault}
use Rattle.rp_auditor.specs.declared.verdicts.AuditFault.TheVariants.{NotJson, NotReport, NoMemory}

abbrev pub no_memory : AuditFault
no_memory = NoMemory

-- a report that is not read back has no verdict
abbrev pub audit_fault : ReadFault → AuditFault
audit_fault reads.NotJson = NotJson
audit_fault reads.NotReport = NotReport
audit_fault reads.NoMemory = NoMemory

-- What a report that is read back is, and why one is not.
use Rattle.std.specs.Prelude.{◌≡◌, ℕ, List, Option, None, Some, Result, Ok, Err, IsUtf8}
use Rattle.serde_json.specs.Data.{Data}
use Rattle.serde_json.specs.Read.{read}
use Rattle.serde_json.specs.View.{view}
use Rattle.serde_json.specs.declared.value.Value.{Value}
use Rattle.rp_reread.specs.Forms.{report_of}
use Rattle.rp_reread.specs.declared.faults.ReadFault.{ReadFault}
use Rattle.rp_reread.specs.declared.faults.ReadFault.TheVariants.{NotJson, NotReport, NoMemory}
use Rattle.rp_reread.specs.declared.reports.Report.{Report}

-- the bytes are UTF-8, and have a reading as a value of JSON, nested at most 127 deep
abbrev pub IsJson : List ℕ → Data → Type 0
IsJson bytes d = IsUtf8 bytes × (read bytes ≡ Some d)

-- the bytes are no value of JSON
abbrev pub IsNoJson : List ℕ → Type 0
IsNoJson bytes = IsUtf8 bytes → read bytes ≡ None

-- what a value of JSON is read as, but for want of memory
abbrev pub IsReadAs : List ℕ → Result Value ReadFault → Type 0
IsReadAs bytes (Ok value) = IsJson bytes (view value)
IsReadAs bytes (Err NotJson) = IsNoJson bytes
IsReadAs bytes (Err NotReport) = ⊥
IsReadAs bytes (Err NoMemory) = Unit {0}

-- the bytes are the JSON of this report
abbrev pub IsReportIn : List ℕ → Report → Type 0
IsReportIn bytes r = (d : Data) × IsJson bytes d × (report_of d ≡ Some r)

-- the bytes are a value of JSON that is no report
abbrev pub IsOtherJson : List ℕ → Type 0
IsOtherJson bytes = (d : Data) × IsJson bytes d × (report_of d ≡ None)

-- a report that is read back, but for want of memory
abbrev pub Rereads : List ℕ → Result Report ReadFault → Type 0
Rereads bytes (Ok r) = IsReportIn bytes r
Rereads bytes (Err NotJson) = IsNoJson bytes
Rereads bytes (Err NotReport) = IsOtherJson bytes
Rereads bytes (Err NoMemory) = Unit {0}

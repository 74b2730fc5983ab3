-- What a call answers and writes.
use Rattle.std.specs.Prelude.{◌≡◌, ℕ, ◌++◌, List, [], Option, Result, Ok, Err, codes}
use Rattle.rp_base.specs.declared.Which.{Which}
use Rattle.rp_base.specs.declared.Which.TheVariants.{Lines, LineBytes, Commands, Events, Weight, ReportBytes, DiskBytes}
use Rattle.rp_outside.specs.Devices.{Adds, AddsFront}
use Rattle.rp_report.specs.Json.{json_report}
use Rattle.rp_report.specs.Report.{report}
use Rattle.rp_report.specs.Words.{newline, spaced}
use Rattle.rp_script.specs.declared.faults.LineKind.{LineKind}
use Rattle.rp_script.specs.declared.faults.LineKind.TheVariants as kinds
use Rattle.rp_script.specs.declared.faults.ScriptFault.{ScriptFault}
use Rattle.rp_script.specs.declared.faults.ScriptFault.TheVariants as faults
use Rattle.rp_lines.specs.Players.{Player}
use Rattle.rp_lines.specs.Views.{IsViewOf}
use Rattle.rp_report.specs.Summary.{summary}
use Rattle.rp_report.specs.declared.views.View.{View}
use Rattle.rp_words.specs.declared.asks.Form.{Form}
use Rattle.rp_words.specs.declared.asks.Form.TheVariants as forms
use Rattle.rp_top.specs.declared.statuses.Status.{Status}
use Rattle.rp_top.specs.declared.statuses.Status.TheVariants as statuses

-- why a line is refused, as it is written
abbrev pub kind_text : LineKind → List ℕ
kind_text kinds.NoCluster = codes "no-cluster"
kind_text kinds.SecondCluster = codes "second-cluster"
kind_text kinds.AfterEnd = codes "after-end"
kind_text kinds.NoEnd = codes "no-end"
kind_text kinds.UnknownWord = codes "unknown-word"
kind_text kinds.NotInRace = codes "not-in-race"
kind_text kinds.MissingWord = codes "missing-word"
kind_text kinds.NotNumber = codes "not-number"
kind_text kinds.OutOfRange = codes "out-of-range"
kind_text kinds.BadKey = codes "bad-key"
kind_text kinds.BadText = codes "bad-text"
kind_text kinds.BadSpan = codes "bad-span"
kind_text kinds.NotSent = codes "not-sent"
kind_text kinds.ExtraWord = codes "extra-word"
kind_text kinds.BadByte = codes "bad-byte"
kind_text kinds.NotJson = codes "not-json"
kind_text kinds.NotReport = codes "not-report"

-- which limit is passed, as it is written
abbrev pub which_text : Which → List ℕ
which_text Lines = codes "lines"
which_text LineBytes = codes "line-bytes"
which_text Commands = codes "commands"
which_text Events = codes "events"
which_text Weight = codes "weight"
which_text ReportBytes = codes "report-bytes"
which_text DiskBytes = codes "disk-bytes"

-- the line that says why a script was not played
abbrev pub fault_line : ScriptFault → List ℕ
fault_line (faults.Refused line word kind) =
    codes "refused" ++ spaced line ++ spaced word ++ codes " " ++ kind_text kind ++ newline
fault_line (faults.Limit which count) =
    codes "limit " ++ which_text which ++ spaced count ++ newline

-- a view in a form
abbrev pub written : Form → View → List ℕ
written forms.Text view = report view
written forms.Json view = json_report view
written forms.Summary view = summary view

-- what is written at the end of a run: a view of its world and of its notes, in the form; or why it
-- did not come to its end
abbrev pub IsOutput : Form → Result Player ScriptFault → List ℕ → Type 0
IsOutput form (Ok p) text =
    (view : View) × IsViewOf p.world.nodes p.notes view × (text ≡ written form view)
IsOutput form (Err fault) text = text ≡ fault_line fault

-- the status of a script that was not played to its end
abbrev pub fault_status : ScriptFault → Status
fault_status (faults.Refused line word kind) = statuses.Refused line word kind
fault_status (faults.Limit which count) = statuses.Limit which count

-- the status at the end of a run
abbrev pub status_of : Result Player ScriptFault → Status
status_of (Ok end) = statuses.Ok
status_of (Err fault) = fault_status fault

-- this status and such a text were due and come, but for a fault or want of memory: at a read fault
-- and at want of memory nothing was written, at a write fault a front of such a text
abbrev pub Writes : Status → Status → (List ℕ → Type 0) → Option (List ℕ) → Option (List ℕ) → Type 0
Writes statuses.ReadFault due IsText old new = Adds old [] new
Writes statuses.NoMemory due IsText old new = Adds old [] new
Writes statuses.WriteFault due IsText old new =
    (text : List ℕ) × IsText text × AddsFront old text new
Writes status due IsText old new =
    (status ≡ due) × ((text : List ℕ) × IsText text × Adds old text new)

-- what a run of this meaning answers and writes in a form
abbrev pub Answers : Status → Form → Result Player ScriptFault
    → Option (List ℕ) → Option (List ℕ) → Type 0
Answers status form meaning old new =
    Writes status (status_of meaning) (IsOutput form meaning) old new

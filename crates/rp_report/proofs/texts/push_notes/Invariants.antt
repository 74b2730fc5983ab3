use Rattle.std.proofs.Common.{◌≡◌, ◌++◌, drop}
use Rattle.std.specs.Prelude.{flat_map}
use Rattle.rp_report.specs.Report.{note_line}
use Rattle.rp_report.proofs.texts.push_notes.Given as goal

-- what is written, with the lines that are left, is all of it
abbrev pub invariant-loop-note : goal.invariant-loop-note
invariant-loop-note l = l.out ++ flat_map note_line (drop l.note-index l.notes) ≡ l.fn.out ++ flat_map note_line l.notes

use Rattle.std.proofs.Common.{drop}
use Rattle.rp_report.specs.Json.{items_by, note_value}
use Rattle.rp_report.proofs.JsonLists.{EndsWell}
use Rattle.rp_report.proofs.json_objects.send_notes.Given as goal

-- what ends the items that are left ends all of them
abbrev pub invariant-loop-note : goal.invariant-loop-note
invariant-loop-note g l =
    EndsWell (items_by note_value l.notes) (g.S.Serializer.written l.initial.out) (items_by note_value (drop l.note-index l.notes)) (g.S.Serializer.written l.out)

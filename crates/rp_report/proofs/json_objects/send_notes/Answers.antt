use Rattle.std.proofs.Common.{length, refl}
use Rattle.rp_report.specs.Json.{note_value}
use Rattle.rp_report.proofs.JsonLists.{closes}
use Rattle.rp_report.proofs.json_objects.send_notes.Goals as goal

pub returns : goal.returns
returns g c =
    closes note_value c.args.notes.now c.loop-note.note-index c.end_seq.result (g.S.Serializer.written c.args.out.now) (g.S.Serializer.written c.begin_seq.new.self)
    (g.S.Serializer.written c.loop-note.out) (g.S.Serializer.written c.end_seq.new.self) (length c.args.notes.now)
    c.in_ok-begin_seq.ensures refl c.loop-note-test.false c.loop-note.invariant c.end_seq.ensures

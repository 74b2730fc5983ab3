use Rattle.std.proofs.Common.{length, refl}
use Rattle.rp_report.specs.Json.{row_value}
use Rattle.rp_report.proofs.JsonLists.{closes}
use Rattle.rp_report.proofs.json_objects.send_rows.Goals as goal

pub returns : goal.returns
returns g c =
    closes row_value c.args.rows.now c.loop-row.row-index c.end_seq.result (g.S.Serializer.written c.args.out.now) (g.S.Serializer.written c.begin_seq.new.self)
    (g.S.Serializer.written c.loop-row.out) (g.S.Serializer.written c.end_seq.new.self) (length c.args.rows.now)
    c.in_ok-begin_seq.ensures refl c.loop-row-test.false c.loop-row.invariant c.end_seq.ensures

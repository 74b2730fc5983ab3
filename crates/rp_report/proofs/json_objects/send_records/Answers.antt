use Rattle.std.proofs.Common.{length, refl}
use Rattle.rp_report.specs.Json.{record_value}
use Rattle.rp_report.proofs.JsonLists.{closes_numbered}
use Rattle.rp_report.proofs.json_objects.send_records.Goals as goal

pub returns : goal.returns
returns g c =
    closes_numbered record_value c.args.first c.args.records.now c.loop-kept.kept-index c.loop-kept.index c.end_seq.result (g.S.Serializer.written c.args.out.now) (g.S.Serializer.written c.begin_seq.new.self)
    (g.S.Serializer.written c.loop-kept.out) (g.S.Serializer.written c.end_seq.new.self) (length c.args.records.now)
    c.in_ok-begin_seq.ensures refl c.loop-kept-test.false c.loop-kept.invariant.sent c.end_seq.ensures

use Rattle.std.proofs.Common.{length, refl}
use Rattle.rp_report.specs.Json.{range_value, items_by}
use Rattle.rp_report.proofs.JsonLists.{closes, one_more}
use Rattle.rp_report.proofs.json_objects.send_ranges.Goals as goal

pub loop-range-preserved : goal.loop-range-preserved
loop-range-preserved g c =
    one_more range_value (items_by range_value c.args.ranges.now) (g.S.Serializer.written c.begin_seq.new.self) (g.S.Serializer.written c.loop-range.out)
    (g.S.Serializer.written c.send_range.new.out) c.args.ranges.now c.loop-range.range-index c.range-item.result c.loop-range-test.true c.range-item.is
    c.loop-range.invariant c.in_ok-send_range.ensures

pub returns : goal.returns
returns g c =
    closes range_value c.args.ranges.now c.loop-range.range-index c.end_seq.result (g.S.Serializer.written c.args.out.now) (g.S.Serializer.written c.begin_seq.new.self)
    (g.S.Serializer.written c.loop-range.out) (g.S.Serializer.written c.end_seq.new.self) (length c.args.ranges.now)
    c.in_ok-begin_seq.ensures refl c.loop-range-test.false c.loop-range.invariant c.end_seq.ensures

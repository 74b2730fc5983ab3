use Rattle.std.proofs.Common.{drop}
use Rattle.rp_report.specs.Json.{items_by, range_value}
use Rattle.rp_report.proofs.JsonLists.{EndsWell}
use Rattle.rp_report.proofs.json_objects.send_ranges.Given as goal

-- what ends the items that are left ends all of them
abbrev pub invariant-loop-range : goal.invariant-loop-range
invariant-loop-range g l =
    EndsWell (items_by range_value l.ranges) (g.S.Serializer.written l.initial.out) (items_by range_value (drop l.range-index l.ranges)) (g.S.Serializer.written l.out)

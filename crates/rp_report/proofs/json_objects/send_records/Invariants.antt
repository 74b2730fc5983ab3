use Rattle.std.proofs.Common.{◌≡◌, ◌+◌, drop}
use Rattle.rp_report.specs.Json.{items_from, record_value}
use Rattle.rp_report.proofs.JsonLists.{EndsWell}
use Rattle.rp_report.proofs.json_objects.send_records.Given as goal

-- what ends the items that are left ends all of them
abbrev pub invariant-loop-kept : goal.invariant-loop-kept
invariant-loop-kept g l = record {
  sent : EndsWell (items_from record_value l.first l.records) (g.S.Serializer.written l.initial.out) (items_from record_value l.index (drop l.kept-index l.records)) (g.S.Serializer.written l.out);
  number : l.index ≡ l.first + l.kept-index;
}

use Rattle.std.proofs.Common.{drop}
use Rattle.rp_report.specs.Json.{items_by, row_value}
use Rattle.rp_report.proofs.JsonLists.{EndsWell}
use Rattle.rp_report.proofs.json_objects.send_rows.Given as goal

-- what ends the items that are left ends all of them
abbrev pub invariant-loop-row : goal.invariant-loop-row
invariant-loop-row g l =
    EndsWell (items_by row_value l.rows) (g.S.Serializer.written l.initial.out) (items_by row_value (drop l.row-index l.rows)) (g.S.Serializer.written l.out)

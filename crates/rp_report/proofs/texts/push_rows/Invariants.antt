use Rattle.std.proofs.Common.{◌≡◌, ◌++◌, drop}
use Rattle.std.specs.Prelude.{flat_map}
use Rattle.rp_report.specs.Report.{row_line}
use Rattle.rp_report.proofs.texts.push_rows.Given as goal

-- what is written, with the lines that are left, is all of it
abbrev pub invariant-loop-row : goal.invariant-loop-row
invariant-loop-row l = l.out ++ flat_map row_line (drop l.row-index l.rows) ≡ l.fn.out ++ flat_map row_line l.rows

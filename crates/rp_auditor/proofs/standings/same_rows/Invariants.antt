use Rattle.std.proofs.Common.{◌≡◌, drop}
use Rattle.std.specs.FinMap.{entries}
use Rattle.rp_auditor.specs.Playing.{same_rows}
use Rattle.rp_auditor.proofs.standings.same_rows.Given as goal

-- the rows that are left are those of the table where all are
abbrev pub invariant-loop-at : goal.invariant-loop-at
invariant-loop-at l = same_rows (drop l.at (entries l.table.map)) (drop l.at l.rows) ≡ same_rows (entries l.table.map) l.rows

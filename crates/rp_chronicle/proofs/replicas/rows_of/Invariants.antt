use Rattle.std.proofs.Common.{◌≡◌, take}
use Rattle.std.specs.Prelude.{map}
use Rattle.std.specs.FinMap.{entries}
use Rattle.rp_lines.specs.Views.{row_of}
use Rattle.rp_chronicle.proofs.replicas.rows_of.Given as goal

-- the rows so far
abbrev pub invariant-loop-at : goal.invariant-loop-at
invariant-loop-at l = l.rows.items ≡ map row_of (take l.at (entries l.table.map))

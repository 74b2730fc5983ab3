use Rattle.std.proofs.Common.{◌≡◌, ◌++◌, drop}
use Rattle.std.specs.Prelude.{flat_map}
use Rattle.rp_report.specs.Report.{range_lines}
use Rattle.rp_report.proofs.texts.push_ranges.Given as goal

-- what is written, with the lines that are left, is all of it
abbrev pub invariant-loop-range : goal.invariant-loop-range
invariant-loop-range l = l.out ++ flat_map range_lines (drop l.range-index l.ranges) ≡ l.fn.out ++ flat_map range_lines l.ranges

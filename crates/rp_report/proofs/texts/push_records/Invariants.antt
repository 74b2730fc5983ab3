use Rattle.std.proofs.Common.{◌≡◌, ◌+◌, ◌++◌, drop}
use Rattle.rp_report.specs.Report.{record_lines}
use Rattle.rp_report.proofs.texts.push_records.Given as goal

-- what is written, with the lines that are left, is all of it
abbrev pub invariant-loop-record : goal.invariant-loop-record
invariant-loop-record l = record {
  written : l.out ++ record_lines l.index (drop l.record-index l.records) ≡ l.fn.out ++ record_lines l.first l.records;
  index : l.index ≡ l.first + l.record-index;
}

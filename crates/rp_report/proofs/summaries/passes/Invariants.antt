use Rattle.std.proofs.Common.{◌≡◌, ◌*◌, ◌≤◌, ◌^◌, take}
use Rattle.rp_report.specs.Summary.{records_in, is_pass}
use Rattle.rp_report.proofs.summaries.passes.Given as goal

-- those of the ranges so far, each of which has fewer than 2 ^ 64
abbrev pub invariant-loop-range : goal.invariant-loop-range
invariant-loop-range l = record {
  counted : l.total ≡ records_in is_pass (take l.range-index l.ranges);
  small : l.total ≤ l.range-index * 2 ^ 64;
}

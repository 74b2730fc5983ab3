use Rattle.std.proofs.Common.{◌≡◌, ◌≤◌, take}
use Rattle.std.specs.Prelude.{count_by}
use Rattle.rp_racelines.specs.Judging.{is_open_line}
use Rattle.rp_racelines.proofs.race_ends.count_open.Given as goal

abbrev pub invariant-loop-line : goal.invariant-loop-line
invariant-loop-line l = record {
  counted : l.count ≡ count_by is_open_line (take l.line-index l.lines);
  most : l.count ≤ l.line-index;
}

use Rattle.std.proofs.Common.{◌≡◌, ◌+◌, drop}
use Rattle.rp_auditor.specs.Audits.{runs_from}
use Rattle.rp_auditor.proofs.ranges.runs_from.Given as goal

-- the entries that are left run from here where all run from the first index
abbrev pub invariant-loop-entry : goal.invariant-loop-entry
invariant-loop-entry l = record {
  index : l.index ≡ l.first + l.entry-index;
  runs : runs_from l.index (drop l.entry-index l.entries) ≡ runs_from l.first l.entries;
}

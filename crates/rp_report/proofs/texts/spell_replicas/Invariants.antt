use Rattle.std.proofs.Common.{◌≡◌, ◌+◌, ◌++◌, drop}
use Rattle.rp_report.specs.Report.{replica_lines}
use Rattle.rp_report.proofs.texts.spell_replicas.Given as goal

-- what is written, with the lines that are left, is all of it
abbrev pub invariant-loop-replica : goal.invariant-loop-replica
invariant-loop-replica l = record {
  written : l.out ++ replica_lines l.node (drop l.replica-index l.replicas) ≡ l.fn.out ++ replica_lines 1 l.replicas;
  node : l.node ≡ l.replica-index + 1;
}

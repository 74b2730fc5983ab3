use Rattle.std.proofs.Common.{◌≡◌, Some, drop}
use Rattle.rp_auditor.specs.Audits.{judged_replicas}
use Rattle.rp_auditor.proofs.ranges.judge_replicas.Given as goal

-- what all replicas say, those that are left say
abbrev pub invariant-loop-replica : goal.invariant-loop-replica
invariant-loop-replica l =
    judged_replicas l.range.id (Some l.start) l.range.entries (drop l.replica-index l.replicas) ≡ judged_replicas l.range.id (Some l.start) l.range.entries l.replicas

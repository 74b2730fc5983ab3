use Rattle.std.proofs.Common.{drop}
use Rattle.rp_auditor.proofs.Walks.{GoingOn}
use Rattle.rp_auditor.proofs.audits.judge_ranges.Given as goal

-- what all ranges say, those that are left say
abbrev pub invariant-loop-range : goal.invariant-loop-range
invariant-loop-range l = GoingOn l.ranges l.initial.seen.entries l.seen.entries (drop l.range-index l.ranges)

use Rattle.std.proofs.Common.{drop}
use Rattle.rp_auditor.proofs.Going.{Going}
use Rattle.rp_auditor.proofs.entries.judge_entries.Given as goal

-- what all entries say, those that are left say
abbrev pub invariant-loop-entry : goal.invariant-loop-entry
invariant-loop-entry l = Going l.range l.initial.seen.entries l.initial.standing l.entries l.seen.entries l.standing (drop l.entry-index l.entries)

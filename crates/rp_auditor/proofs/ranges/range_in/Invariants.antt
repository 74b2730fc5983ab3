use Rattle.std.proofs.Common.{◌≡◌, drop}
use Rattle.rp_auditor.specs.Starts.{range_in}
use Rattle.rp_auditor.proofs.ranges.range_in.Given as goal

-- what is left has the range where all have it
abbrev pub invariant-loop-other : goal.invariant-loop-other
invariant-loop-other l = range_in (drop l.other-index l.ranges) l.range ≡ range_in l.ranges l.range

use Rattle.std.proofs.Common.{◌≡◌, Some, drop}
use Rattle.rp_auditor.specs.Starts.{split_off}
use Rattle.rp_auditor.proofs.entries.split_off.Given as goal

-- what is left leads from here where all led from the start
abbrev pub invariant-loop-entry : goal.invariant-loop-entry
invariant-loop-entry l =
    split_off l.range (Some l.standing) (drop l.entry-index l.entries) ≡ split_off l.range (Some l.fn.left) l.entries

use Rattle.std.proofs.Common.{◌≡◌, Some, drop}
use Rattle.rp_auditor.specs.Playing.{after_entries, up_to}
use Rattle.rp_auditor.proofs.entries.state_at.Given as goal

-- what is left leads from here where all led from the start
abbrev pub invariant-loop-entry : goal.invariant-loop-entry
invariant-loop-entry l =
    after_entries (Some l.standing) (up_to l.index (drop l.entry-index l.entries)) ≡ after_entries (Some l.start) (up_to l.index l.entries)

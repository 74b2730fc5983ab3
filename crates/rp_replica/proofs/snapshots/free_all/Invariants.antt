use Rattle.std.proofs.Common.{◌≡◌, drop}
use Rattle.rp_events.specs.Ends.{held_by_others}
use Rattle.rp_replica.proofs.snapshots.free_all.Given as goal

-- what is left frees from here what all of it frees from the start
abbrev pub invariant-loop-end : goal.invariant-loop-end
invariant-loop-end l =
    held_by_others (drop l.end-index l.ended) l.latches.list ≡ held_by_others l.ended l.fn.latches.list

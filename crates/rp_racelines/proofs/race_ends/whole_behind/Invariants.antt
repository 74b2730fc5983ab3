use Rattle.std.proofs.Common.{◌≡◌, take}
use Rattle.rp_racelines.specs.Judging.{whole_behind}
use Rattle.rp_racelines.proofs.race_ends.whole_behind.Given as goal

abbrev pub invariant-loop-event : goal.invariant-loop-event
invariant-loop-event l = l.whole ≡ whole_behind (take l.event-index l.events)

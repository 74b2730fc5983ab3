use Rattle.std.proofs.Common.{◌≡◌, true}
use Rattle.rp_world.specs.Going.{Going}
use Rattle.rp_world.specs.Putting.{AllGo, IsUnderWay, turns}
use Rattle.rp_world.proofs.worlds.World.puts_queued.Given as goal

-- what is left leads where all of it led from the start, and what may still be put stands in its queue
abbrev pub invariant-loop-queue : goal.invariant-loop-queue
invariant-loop-queue l = record {
  way : IsUnderWay l.fn.self l.queues l.passed l.self;
  going : Going l.self;
  stands : l.whole ≡ true → AllGo l.self l.queues;
}

abbrev pub decreases-loop-queue : goal.decreases-loop-queue
decreases-loop-queue l = turns l.queues l.passed

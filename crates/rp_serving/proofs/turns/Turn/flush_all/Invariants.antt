use Rattle.std.proofs.Common.{◌≡◌}
use Rattle.rp_race.specs.Rounds.{flushing, stage_of}
use Rattle.rp_serving.specs.Turns.{UnderWay, HearsNothing}
use Rattle.rp_serving.proofs.turns.Turn.flush_all.Given as goal

-- so many live ranges are flushed
abbrev pub invariant-loop-ranges : goal.invariant-loop-ranges
invariant-loop-ranges g l = record {
  under_way : UnderWay l.self l.node.node;
  stage : stage_of l.node.node.journal ≡ flushing l.ranges;
  heard : HearsNothing l.fn.node.node l.node.node;
}

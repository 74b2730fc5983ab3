use Rattle.std.proofs.Common.{◌≡◌, ◌-◌, true, length}
use Rattle.rp_events.specs.Nodes.{journal_end}
use Rattle.rp_race.specs.Rounds.{may_apply, stage_of}
use Rattle.rp_serving.specs.Turns.{known_of, UnderWay, HearsNothing}
use Rattle.rp_serving.proofs.turns.Turn.apply_all.Given as goal

-- entries may be applied
abbrev pub invariant-loop-range : goal.invariant-loop-range
invariant-loop-range g l = record {
  under_way : UnderWay l.self l.node.node;
  may : may_apply (known_of l.self).terms.rules l.node.node (stage_of l.node.node.journal) ≡ true;
  heard : HearsNothing l.fn.node.node l.node.node;
}

abbrev pub decreases-loop-range : goal.decreases-loop-range
decreases-loop-range g l = journal_end - length l.node.node.journal

use Rattle.std.proofs.Common.{arith}
use Rattle.rp_events.specs.Buffered.{is_live}
use Rattle.rp_events.specs.Nodes.{seat}
use Rattle.rp_serving.proofs.Ranging.{none_beyond, not_some}
use Rattle.rp_serving.proofs.turns.Turn.flush_all.Goals as goal

pub returns-clause-flushed : goal.returns-clause-flushed
returns-clause-flushed g c =
    let test = c.loop-ranges-test.false in
    record {
      ranges = c.loop-ranges.ranges;
      stage = c.loop-ranges.invariant.stage;
      all = not_some _ (none_beyond (λ range. is_live (seat c.loop-ranges.node.node range)) c.loop-ranges.ranges (omega (arith, test)));
    }

use Rattle.rp_racelines.proofs.Sending.{hands_more}
use Rattle.rp_racelines.proofs.lines.handovers_in.Goals as goal

pub loop-line-preserved : goal.loop-line-preserved
loop-line-preserved c = hands_more c.args.lines.now c.loop-line.line-index c.line-item.result c.loop-line.handovers.items _ _
    c.loop-line-test.true c.line-item.is c.loop-line.invariant c.handover_in.ensures c.in_ok-push_handover.ensures

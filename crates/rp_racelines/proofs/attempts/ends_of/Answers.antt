use Rattle.rp_racelines.proofs.Noting.{ended_more}
use Rattle.rp_racelines.proofs.attempts.ends_of.Goals as goal

pub loop-ended-preserved : goal.loop-ended-preserved
loop-ended-preserved c id = ended_more id c.args.outcomes.now c.loop-ended.ended-index c.ended-item.result _ _
    c.loop-ended-test.true c.ended-item.is (c.loop-ended.invariant id) (c.in_ok-note_end.ensures id)

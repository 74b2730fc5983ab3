use Rattle.rp_node.specs.Ticks.{seat_ends, seat_sends}
use Rattle.rp_node.proofs.Ticking.{sizes_fit, sum_more}
use Rattle.rp_node.proofs.ticks.sum_sizes.Goals as goal

pub loop-plan-preserved : goal.loop-plan-preserved
loop-plan-preserved c = record {
  sends = sum_more seat_sends c.args.plans.now c.loop-plan.plan-index c.plan-item.result c.loop-plan.sends c.sizes-more_sends.result.0 c.in_ok-sends.sends
      c.loop-plan.invariant.sends c.loop-plan-test.true c.plan-item.is
      (sizes_fit c.plan-item.result c.sizes-more_sends.result.0 c.sizes-more_sends.result.1 c.sizes-more_sends.ensures).0 c.in_ok-sends.ensures;
  ends = sum_more seat_ends c.args.plans.now c.loop-plan.plan-index c.plan-item.result c.loop-plan.ends c.sizes-more_sends.result.1 c.in_ok-ends.ends
      c.loop-plan.invariant.ends c.loop-plan-test.true c.plan-item.is
      (sizes_fit c.plan-item.result c.sizes-more_sends.result.0 c.sizes-more_sends.result.1 c.sizes-more_sends.ensures).1 c.in_ok-ends.ensures;
}

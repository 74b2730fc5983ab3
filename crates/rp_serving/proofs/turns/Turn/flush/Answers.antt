use Rattle.rp_serving.proofs.Stepping.{flush_heard_ok}
use Rattle.rp_serving.proofs.turns.Turn.flush.Goals as goal

pub returns-clause-heard : goal.returns-clause-heard
returns-clause-heard g c = flush_heard_ok _ _ _ _ c.happen-2.result _ _ _ c.args.range c.in_ok-happen.ensures.ok c.happen-2.ensures.ok

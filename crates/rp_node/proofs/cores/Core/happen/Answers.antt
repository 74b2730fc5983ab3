use Rattle.rp_node.specs.Cores.{node_of}
use Rattle.rp_node.proofs.Stepping.{happened}
use Rattle.rp_node.proofs.cores.Core.happen.Goals as goal

pub returns-clause-ok : goal.returns-clause-ok
returns-clause-ok c =
    happened (node_of c.args.self.now) c.prepare.new.self c.turn-answer.new.self c.write.new.self c.args.range c.args.happens c.in_ok-plan.plan c.args.past c.turn-answer.result
    c.in_ok-plan.ensures.node c.in_ok-plan.ensures.plan.ready c.requires.live c.turn-answer.ensures.done
    c.write.ensures.journal c.write.ensures.sent c.write.ensures.outcomes c.write.ensures.requests

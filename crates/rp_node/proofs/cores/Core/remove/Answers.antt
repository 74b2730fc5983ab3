use Rattle.rp_node.specs.Cores.{node_of}
use Rattle.rp_node.proofs.Stepping.{removed_node}
use Rattle.rp_node.proofs.cores.Core.remove.Goals as goal

pub returns-clause-ok : goal.returns-clause-ok
returns-clause-ok c =
    removed_node (node_of c.args.self.now) c.prepare.new.self c.turn-answer.new.self c.take_down.new.self c.write.new.self c.args.range c.in_ok-plan.plan c.turn-answer.result
    c.in_ok-plan.ensures.seat c.in_ok-plan.ensures.node c.in_ok-plan.ensures.plan.ready c.turn-answer.ensures.done c.take_down.ensures.node
    c.write.ensures.journal c.write.ensures.sent c.write.ensures.outcomes c.write.ensures.requests

use Rattle.rp_node.specs.Cores.{node_of}
use Rattle.rp_node.proofs.Collecting.{collect_steps}
use Rattle.rp_node.proofs.cores.Core.collect.Goals as goal

pub returns-clause-ok : goal.returns-clause-ok
returns-clause-ok g c =
    collect_steps g.B.BufferEnd.gives (node_of c.args.self.now) c.prepare.new.self c.take.new.self c.args.range c.in_ok-plan.plan c.args.end.now c.ask.new.end c.ask.new.taken.list c.take.result
    c.in_ok-plan.ensures.node c.in_ok-plan.ensures.plan.ready c.ask.ensures.asked c.take.ensures

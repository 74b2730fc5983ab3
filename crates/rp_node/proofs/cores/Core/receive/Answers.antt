use Rattle.std.proofs.Common.{rules}
use Rattle.rp_node.proofs.Coming.{comes_there}
use Rattle.rp_node.proofs.cores.Core.receive.Goals as goal

pub returns-clause-ok : goal.returns-clause-ok
returns-clause-ok c =
    comes_there c.args.self.now c.prepare.new.self c.turn.new.self c.args.range c.from.result c.args.from c.args.message c.index-self-from.result c.in_ok-plan.plan c.turn.result
    (search rules) (search rules) c.index-self-from.is (search rules) c.in_ok-plan.ensures.node c.in_ok-plan.ensures.plan.ready c.turn.ensures.done

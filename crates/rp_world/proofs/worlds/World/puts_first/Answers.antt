use Rattle.rp_world.proofs.Merging.{left_whole, one_left}
use Rattle.rp_world.proofs.worlds.World.puts_first.Goals as goal

pub returns-in-None-clause-ok : goal.returns-in-None-clause-ok
returns-in-None-clause-ok c start u = one_left start c.args.self.now c.args.queues.now c.remove.new.self c.args.passed.now c.args.queue c.args.id c.in-None.ensures c.remove.ensures.holds u

pub returns-in-None-clause-whole : goal.returns-in-None-clause-whole
returns-in-None-clause-whole c all whole = left_whole c.args.self.now c.args.queues.now c.remove.new.self c.args.queue c.args.id c.remove.ensures.holds c.in-None.ensures all

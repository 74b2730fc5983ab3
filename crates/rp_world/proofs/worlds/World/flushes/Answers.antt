use Rattle.rp_world.proofs.Lining.{going_told, node_on, node_told}
use Rattle.rp_world.proofs.worlds.World.flushes.Goals as goal

pub quietly-requires-clause-going : goal.quietly-requires-clause-going
quietly-requires-clause-going c = going_told c.args.self.now c.tell_absent.new.self c.args.line c.args.node c.args.range c.requires.going c.in_ok-tell_absent.ensures

pub quietly-requires-clause-plain : goal.quietly-requires-clause-plain
quietly-requires-clause-plain c = node_told c.args.self.now c.tell_absent.new.self c.args.line c.args.node c.args.range c.in_ok-tell_absent.ensures c.requires.node

pub quietly-requires-2-clause-plain : goal.quietly-requires-2-clause-plain
quietly-requires-2-clause-plain c =
    node_on c.tell_absent.new.self c.quietly.new.self c.args.node c.in_ok-quietly.ensures.nodes
    (node_told c.args.self.now c.tell_absent.new.self c.args.line c.args.node c.args.range c.in_ok-tell_absent.ensures c.requires.node)

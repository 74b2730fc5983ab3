use Rattle.rp_world.proofs.Rounds.{each_node}
use Rattle.rp_world.proofs.worlds.World.pass_each.Goals as goal

pub passes_all-requires-clause-sender : goal.passes_all-requires-clause-sender
passes_all-requires-clause-sender c = each_node c.args.self.now c.loop-node.self c.args.nodes.now c.loop-node.node-index c.node-item.result c.requires.nodes c.loop-node-test.true c.node-item.is c.loop-node.invariant.many

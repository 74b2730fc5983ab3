use Rattle.rp_world.proofs.Rounds.{numbers_are}
use Rattle.rp_world.proofs.worlds.World.numbers_of.Goals as goal

pub returns-clause-numbers : goal.returns-clause-numbers
returns-clause-numbers c = numbers_are c.args.self.now c.requires.going c.nodes.result.now c.nodes.ensures c.len.result c.len.ensures c.args.all.now c.requires.all

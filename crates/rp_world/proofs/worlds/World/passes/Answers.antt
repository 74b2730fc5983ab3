use Rattle.rp_world.proofs.Rounds.{passed_goes, passed_many}
use Rattle.rp_world.proofs.worlds.World.passes.Goals as goal

pub returns-clause-going : goal.returns-clause-going
returns-clause-going c = passed_goes c.passes_numbered.result c.args.self.now c.passes_numbered.new.self c.args.sender c.args.number c.requires.going c.passes_numbered.ensures

pub returns-clause-nodes : goal.returns-clause-nodes
returns-clause-nodes c = passed_many c.passes_numbered.result c.args.self.now c.passes_numbered.new.self c.args.sender c.args.number c.requires.going c.passes_numbered.ensures

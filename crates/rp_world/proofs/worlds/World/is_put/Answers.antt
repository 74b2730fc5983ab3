use Rattle.rp_world.proofs.Merging.{went_put}
use Rattle.rp_world.proofs.worlds.World.is_put.Goals as goal

pub returns-clause-put : goal.returns-clause-put
returns-clause-put c = went_put c.args.id c.args.booked.now c.args.place c.args.self.now c.publishes.new.self c.in_ok-publishes.ensures

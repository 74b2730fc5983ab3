use Rattle.rp_world.specs.contracts.worlds.World.{the_view}
use Rattle.rp_world.proofs.Commanding.{latest_booked, latest_here, latest_node}
use Rattle.rp_world.proofs.worlds.World.publishes_latest.Goals as goal

pub publishes_by-requires-clause-node : goal.publishes_by-requires-clause-node
publishes_by-requires-clause-node c =
    latest_node c.args.self.now c.requires.going c.args.client c.args.seq c.in-Some.id c.in-Some.booked
    (latest_here c.args.self.now (the_view c.self.inside) c.self.view_is c.args.client c.args.seq c.in-Some.id c.in-Some.booked c.in-Some.ensures)

pub publishes_by-requires-clause-has : goal.publishes_by-requires-clause-has
publishes_by-requires-clause-has c =
    latest_booked c.args.self.now c.requires.going c.args.client c.args.seq c.in-Some.id c.in-Some.booked
    (latest_here c.args.self.now (the_view c.self.inside) c.self.view_is c.args.client c.args.seq c.in-Some.id c.in-Some.booked c.in-Some.ensures)

use Rattle.rp_world.proofs.Commanding.{latest_has, latest_node, undrawn_here}
use Rattle.rp_world.proofs.worlds.World.draws_latest.Goals as goal

pub draws-requires-clause-node : goal.draws-requires-clause-node
draws-requires-clause-node c =
    latest_node c.args.self.now c.requires.going c.args.client c.args.seq c.in-Some.id c.in-Some.booked
    (undrawn_here c.args.self.now c.args.client c.args.seq c.in-Some.id c.in-Some.booked c.in-Some.ensures)

pub draws-requires-clause-has : goal.draws-requires-clause-has
draws-requires-clause-has c =
    latest_has c.args.self.now c.requires.going c.args.client c.args.seq c.in-Some.id c.in-Some.booked
    (undrawn_here c.args.self.now c.args.client c.args.seq c.in-Some.id c.in-Some.booked c.in-Some.ensures)

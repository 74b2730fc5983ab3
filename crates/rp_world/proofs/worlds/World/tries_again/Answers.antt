use Rattle.rp_world.proofs.Commanding.{further_fits, further_is_new, further_may_come}
use Rattle.rp_world.proofs.worlds.World.tries_again.Goals as goal

pub following-requires : goal.following-requires
following-requires c = further_fits c.args.self.now c.requires.going c.args.client c.args.seq c.in-Some.id c.in-Some.booked c.in-Some.ensures

pub asks_and_goes_on-requires-clause-comes : goal.asks_and_goes_on-requires-clause-comes
asks_and_goes_on-requires-clause-comes c =
    further_may_come c.args.self.now c.requires.going c.args.node c.args.range c.args.client c.args.seq c.in-Some.id c.following.result c.in-Some.booked c.booking-next.result
    c.in-Some.ensures c.following.ensures c.booking-next.ensures c.requires.node

pub asks_and_goes_on-requires-clause-is_new : goal.asks_and_goes_on-requires-clause-is_new
asks_and_goes_on-requires-clause-is_new c =
    further_is_new c.args.self.now c.requires.going c.args.client c.args.seq c.in-Some.id c.following.result c.in-Some.booked c.in-Some.ensures c.following.ensures

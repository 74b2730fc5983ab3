use Rattle.rp_world.proofs.Commanding.{admission_comes, admission_new}
use Rattle.rp_world.proofs.worlds.World.sends.Goals as goal

pub asks_and_goes_on-requires-clause-comes : goal.asks_and_goes_on-requires-clause-comes
asks_and_goes_on-requires-clause-comes c =
    admission_comes c.args.self.now c.next_command-id.new.self c.requires.going c.args.client c.next_command-id.result c.args.booked.now
    c.next_command-id.ensures.id c.next_command-id.ensures.counted c.requires.node c.requires.client c.requires.request

pub asks_and_goes_on-requires-clause-is_new : goal.asks_and_goes_on-requires-clause-is_new
asks_and_goes_on-requires-clause-is_new c =
    admission_new c.args.self.now c.next_command-id.new.self c.requires.going c.args.client c.next_command-id.result
    c.next_command-id.ensures.id c.next_command-id.ensures.counted c.requires.client

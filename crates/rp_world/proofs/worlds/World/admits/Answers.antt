use Rattle.rp_world.proofs.Commanding.{admission_comes}
use Rattle.rp_world.proofs.worlds.World.admits.Goals as goal

pub ask-requires-clause-comes : goal.ask-requires-clause-comes
ask-requires-clause-comes c =
    admission_comes c.args.self.now c.next_command-id.new.self c.requires.going c.args.client c.next_command-id.result c.args.booked.now
    c.next_command-id.ensures.id c.next_command-id.ensures.counted c.requires.node c.requires.client c.requires.request

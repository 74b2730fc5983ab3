use Rattle.rp_world.proofs.Rounds.{plain_on}
use Rattle.rp_world.proofs.worlds.World.quietly.Goals as goal

pub event-requires-clause-comes : goal.event-requires-clause-comes
event-requires-clause-comes c = plain_on c.args.self.now c.requires.going c.args.event.now c.requires.plain

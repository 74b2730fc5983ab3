use Rattle.rp_world.proofs.Lining.{comes_handled, going_handled, sender_handled}
use Rattle.rp_world.proofs.worlds.World.comes.Goals as goal

pub handle-requires-clause-sender : goal.handle-requires-clause-sender
handle-requires-clause-sender c = sender_handled c.args.self.now c.args.sender c.args.number c.args.to c.requires.going c.requires.sent

pub event-requires-clause-going : goal.event-requires-clause-going
event-requires-clause-going c = going_handled c.args.self.now c.handle.new.self c.args.sender c.args.number c.args.to c.requires.going c.requires.sent c.in_ok-handle.ensures

pub event-requires-clause-comes : goal.event-requires-clause-comes
event-requires-clause-comes c = comes_handled c.args.self.now c.handle.new.self c.args.sender c.args.number c.args.to c.requires.going c.requires.sent c.in_ok-handle.ensures

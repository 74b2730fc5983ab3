use Rattle.rp_events.specs.declared.world_events.WorldEvent.TheVariants as events
use Rattle.rp_world.proofs.Lining.{going_told, node_told}
use Rattle.rp_world.proofs.Onwards.{going_comes}
use Rattle.rp_world.proofs.worlds.World.peeks.Goals as goal

pub event-requires-clause-going : goal.event-requires-clause-going
event-requires-clause-going c = going_told c.args.self.now c.tell_absent.new.self c.args.line c.args.node c.args.range c.requires.going c.in_ok-tell_absent.ensures

pub event-requires-clause-comes : goal.event-requires-clause-comes
event-requires-clause-comes c =
    going_comes c.tell_absent.new.self (going_told c.args.self.now c.tell_absent.new.self c.args.line c.args.node c.args.range c.requires.going c.in_ok-tell_absent.ensures)
    (events.Peek c.args.node c.args.range c.args.key)
    (node_told c.args.self.now c.tell_absent.new.self c.args.line c.args.node c.args.range c.in_ok-tell_absent.ensures c.requires.node)

use Rattle.std.proofs.Common.{subst, sym}
use Rattle.rp_lawful.specs.Comings.{IsPlain}
use Rattle.rp_world.proofs.Lining.{going_told, many_told}
use Rattle.rp_world.proofs.Onwards.{going_comes}
use Rattle.rp_world.proofs.worlds.World.does.Goals as goal

pub event-requires-clause-going : goal.event-requires-clause-going
event-requires-clause-going c = going_told c.args.self.now c.tell_absent.new.self c.args.line c.node_of-node.result c.args.range c.requires.going c.in_ok-tell_absent.ensures

pub event-requires-clause-comes : goal.event-requires-clause-comes
event-requires-clause-comes c =
    going_comes c.tell_absent.new.self (going_told c.args.self.now c.tell_absent.new.self c.args.line c.node_of-node.result c.args.range c.requires.going c.in_ok-tell_absent.ensures) c.args.event.now
    (subst (λ k. IsPlain k c.args.event.now) (sym (many_told c.args.self.now c.tell_absent.new.self c.args.line c.node_of-node.result c.args.range c.in_ok-tell_absent.ensures)) c.requires.plain)

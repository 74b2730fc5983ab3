use Rattle.std.proofs.Common.{rules, refl}
use Rattle.rp_events.specs.declared.node_events.Event.TheVariants as events
use Rattle.rp_node.specs.Cores.{node_of}
use Rattle.rp_node.proofs.Happening.{quiet_at}
use Rattle.rp_node.proofs.nodes.Node.step.Goals as goal

pub returns-in-Admit-clause-ok : goal.returns-in-Admit-clause-ok
returns-in-Admit-clause-ok g c =
    quiet_at g.B.BufferEnd.gives c.args.self.now (record { node = node_of c.self.inside.core; end = c.self.inside.end }) c.args.event (events.Admit c.in-Admit.range c.in-Admit.id c.in-Admit.request) (node_of c.admit.new.self) c.admit.result
    (search rules) c.in-Admit.is (record { nothing = refl; same = refl }) c.admit.ensures.ok

pub returns-in-Tick-clause-ok : goal.returns-in-Tick-clause-ok
returns-in-Tick-clause-ok g c =
    quiet_at g.B.BufferEnd.gives c.args.self.now (record { node = node_of c.self.inside.core; end = c.self.inside.end }) c.args.event events.Tick (node_of c.tick.new.self) c.tick.result
    (search rules) c.in-Tick.is (record { nothing = refl; same = refl }) c.tick.ensures.ok

pub returns-in-Restart-clause-ok : goal.returns-in-Restart-clause-ok
returns-in-Restart-clause-ok g c =
    quiet_at g.B.BufferEnd.gives c.args.self.now (record { node = node_of c.self.inside.core; end = c.self.inside.end }) c.args.event events.Restart (node_of c.restart.new.self) c.restart.result
    (search rules) c.in-Restart.is (record { nothing = refl; same = refl }) c.restart.ensures.ok

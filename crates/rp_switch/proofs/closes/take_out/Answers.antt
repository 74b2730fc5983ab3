use Rattle.std.specs.Slots.{slots_items}
use Rattle.rp_switch.proofs.Closing.{body_there, nothing_there, reply_there}
use Rattle.rp_switch.proofs.closes.take_out.Goals as goal

pub returns-in-Body-clause-found : goal.returns-in-Body-clause-found
returns-in-Body-clause-found g c =
    body_there (slots_items c.args.closed.now.slots) c.args.place c.take.result c.in-Body.node c.push.new.self.list c.args.nodes.now.list c.take.ensures.value c.in-Body.is c.push.ensures.list

pub returns-in-Nothing-clause-found : goal.returns-in-Nothing-clause-found
returns-in-Nothing-clause-found g c =
    nothing_there (slots_items c.args.closed.now.slots) c.args.place c.take.result c.args.nodes.now.list c.take.ensures.value c.in-Nothing.is

pub returns-in-Reply-clause-found : goal.returns-in-Reply-clause-found
returns-in-Reply-clause-found g c =
    reply_there (slots_items c.args.closed.now.slots) c.args.place c.take.result _ c.args.nodes.now.list c.take.ensures.value c.in-Reply.is

use Rattle.std.proofs.Common.{rules, get_or, sym, ap, subst}
use Rattle.rp_raftstep.specs.declared.messages.Message.{Message}
use Rattle.rp_request.specs.Applied.{AppliedState}
use Rattle.rp_events.specs.declared.replica_events.ReplicaEvent.TheVariants.{Deliver}
use Rattle.rp_node.specs.Cores.{status_of}
use Rattle.rp_node.specs.Quiet.{TurnsQuietly}
use Rattle.rp_node.proofs.Seating.{prepared_node}
use Rattle.rp_node.proofs.Silence.{heard_node}
use Rattle.rp_node.proofs.cores.Core.hears.Goals as goal

pub returns-clause-heard : goal.returns-clause-heard
returns-clause-heard c = λ heard.
    let seats = c.args.self.now.seats in
    let old = get_or seats c.from.result c.index-self-from.result in
    heard_node c.args.self.now c.make_room.new.self c.args.from c.args.range c.from.result c.args.message.now old c.hear-heard.new.self
    (search rules) (search rules) (ap (λ d. get_or seats c.from.result d) c.index-self-from.is) c.make_room.ensures.lists (c.hear-heard.ensures.there heard)
    (subst (λ (m : Message AppliedState). TurnsQuietly (Deliver c.args.from m) c.args.self.now.ticks (status_of old) (status_of c.hear-heard.new.self)) (sym c.in-AppendReply.is) (c.hear-heard.ensures.heard heard c.args.self.now.ticks))

pub returns-clause-stays : goal.returns-clause-stays
returns-clause-stays c = λ stays.
    let seats = c.args.self.now.seats in
    prepared_node c.args.self.now c.from.result (get_or seats c.from.result c.index-self-from.result) c.hear-heard.new.self c.make_room.new.self (ap (λ d. get_or seats c.from.result d) c.index-self-from.is) (c.hear-heard.ensures.stays stays) c.make_room.ensures.lists

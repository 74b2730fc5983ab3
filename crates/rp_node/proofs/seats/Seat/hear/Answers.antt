use Rattle.std.proofs.Common.{sym, subst}
use Rattle.rp_raftstep.specs.declared.messages.Message.TheVariants.{AppendReply}
use Rattle.rp_events.specs.Nodes.{Live}
use Rattle.rp_events.specs.declared.replica_events.ReplicaEvent.TheVariants.{Deliver}
use Rattle.rp_node.specs.declared.seats.Seat.{Seat}
use Rattle.rp_node.specs.Cores.{status_of}
use Rattle.rp_node.specs.Quiet.{TurnsQuietly}
use Rattle.rp_node.proofs.seats.Seat.hear.Goals as goal

pub returns-in-Live-clause-heard : goal.returns-in-Live-clause-heard
returns-in-Live-clause-heard c = λ heard ticks.
    subst (λ (s : Seat). TurnsQuietly (Deliver c.args.from (AppendReply c.args.term c.args.ok c.args.index)) ticks (status_of s) (Live c.hear.new.self.replica)) (sym c.in-Live.is) (c.hear.ensures.event heard ticks)

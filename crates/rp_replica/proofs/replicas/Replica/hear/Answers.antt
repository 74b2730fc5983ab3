use Rattle.std.proofs.Common.{[], sym, ap, ◌∙◌}
use Rattle.rp_raftstep.specs.declared.messages.Message.TheVariants.{AppendReply}
use Rattle.rp_events.specs.declared.replica_events.ReplicaEvent.TheVariants.{Deliver}
use Rattle.rp_events.specs.ReplicaEvents.{event}
use Rattle.rp_replica.specs.Rooms.{Held}
use Rattle.rp_replica.specs.contracts.replicas.Replica.{the_view}
use Rattle.rp_replica.proofs.Silence.{hears}
use Rattle.rp_replica.proofs.replicas.Replica.hear.Goals as goal

-- src/quiet.rt:42:5
pub returns-clause-event : goal.returns-clause-event
returns-clause-event c = λ heard ticks round.
    ap (λ (h : Held). event h.replica (Deliver c.args.from (AppendReply c.args.term c.args.ok c.args.index)) ticks round []) (sym c.self.view_is)
    ∙ hears (the_view c.self.inside).replica c.args.from c.args.term c.args.ok c.args.index c.hear.new.self.raft (c.hear.ensures.step heard) ticks round

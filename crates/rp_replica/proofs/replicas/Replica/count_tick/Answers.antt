use Rattle.std.proofs.Common.{[], sym, ap, subst, ◌∙◌}
use Rattle.std.specs.Prelude.{IsTrue}
use Rattle.rp_events.specs.declared.replica_events.ReplicaEvent.TheVariants.{Tick}
use Rattle.rp_events.specs.ReplicaEvents.{event}
use Rattle.rp_replica.specs.Quiet.{only_counts}
use Rattle.rp_replica.specs.Rooms.{Held}
use Rattle.rp_replica.specs.contracts.replicas.Replica.{the_view}
use Rattle.rp_replica.proofs.Silence.{counts}
use Rattle.rp_replica.proofs.replicas.Replica.count_tick.Goals as goal

-- src/quiet.rt:30:5
pub returns-clause-event : goal.returns-clause-event
returns-clause-event c = λ round.
    ap (λ (h : Held). event h.replica Tick c.args.ticks round []) (sym c.self.view_is)
    ∙ counts (the_view c.self.inside).replica c.args.ticks c.count_tick.new.self.raft (subst (λ (h : Held). IsTrue (only_counts h.replica c.args.ticks)) (sym c.self.view_is) c.requires) c.count_tick.ensures.step round

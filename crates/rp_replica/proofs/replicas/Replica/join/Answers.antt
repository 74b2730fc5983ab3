use Rattle.std.proofs.Common.{sym, ap, ◌∙◌}
use Rattle.rp_base.specs.declared.items.Item.TheVariants.{Lease}
use Rattle.rp_events.specs.LeaseAsks.{joined}
use Rattle.rp_replica.proofs.Asking.{joins, joins_not}
use Rattle.rp_replica.proofs.replicas.Replica.join.Goals as goal

pub returns-then-take_ask-clause-replica : goal.returns-then-take_ask-clause-replica
returns-then-take_ask-clause-replica c =
    joins c.in-Lease.ask (record {
      raft = c.self.inside.raft.raft;
      applied = c.self.inside.source.state.history;
      latches = c.self.inside.latches.list;
      pending = c.self.inside.pending.list;
      assigned = c.self.inside.assigned;
      inbox = c.self.inside.inbox.list;
      asks = c.self.inside.asks.items;
      barrier = c.self.inside.barrier;
    }) c.take_ask.result c.take_ask.new.asks.items c.push-then-take_ask.new.self.list
    c.take_ask.ensures.there c.if-take_ask.true c.take_ask.ensures.rest c.push-then-take_ask.ensures.list
    ∙ ap (λ h. joined h.replica (Lease c.in-Lease.ask)) c.self.view_is
    ∙ ap (joined c.args.self.now.replica) (sym c.in-Lease.is)

pub returns-else-take_ask-clause-replica : goal.returns-else-take_ask-clause-replica
returns-else-take_ask-clause-replica c =
    joins_not c.in-Lease.ask (record {
      raft = c.self.inside.raft.raft;
      applied = c.self.inside.source.state.history;
      latches = c.self.inside.latches.list;
      pending = c.self.inside.pending.list;
      assigned = c.self.inside.assigned;
      inbox = c.self.inside.inbox.list;
      asks = c.self.inside.asks.items;
      barrier = c.self.inside.barrier;
    }) c.take_ask.result c.take_ask.new.asks.items
    c.take_ask.ensures.there c.if-take_ask.false c.take_ask.ensures.rest
    ∙ ap (λ h. joined h.replica (Lease c.in-Lease.ask)) c.self.view_is
    ∙ ap (joined c.args.self.now.replica) (sym c.in-Lease.is)

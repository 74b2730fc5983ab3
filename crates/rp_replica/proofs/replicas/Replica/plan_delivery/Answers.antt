use Rattle.std.proofs.Common.{◌≡◌, ap, subst, ◌∙◌}
use Rattle.rp_raft.specs.Plans.{done_by, drafted_by}
use Rattle.rp_raftstep.specs.Step.{received, sent}
use Rattle.rp_replica.proofs.Ticking.{delivered_as, delivered_reads, is_behind}
use Rattle.rp_replica.proofs.replicas.Replica.plan_delivery.Goals as goal

pub plan_refresh-requires-clause-refresh : goal.plan_refresh-requires-clause-refresh
plan_refresh-requires-clause-refresh c =
    is_behind (record {
      raft = c.plan.new.raft.raft;
      applied = c.self.inside.source.state.history;
      latches = c.self.inside.latches.list;
      pending = c.self.inside.pending.list;
      assigned = c.self.inside.assigned;
      inbox = c.self.inside.inbox.list;
      asks = c.self.inside.asks.items;
      barrier = c.self.inside.barrier;
    }) c.in_ok-raft.raft c.args.ticks c.in_ok-refresh.refresh c.in_ok-refresh.ensures

pub returns-clause-plan : goal.returns-clause-plan
returns-clause-plan c =
    delivered_as c.plan_refresh.result c.args.ticks c.args.round (record {
      raft = c.plan.new.raft.raft;
      applied = c.self.inside.source.state.history;
      latches = c.self.inside.latches.list;
      pending = c.self.inside.pending.list;
      assigned = c.self.inside.assigned;
      inbox = c.self.inside.inbox.list;
      asks = c.self.inside.asks.items;
      barrier = c.self.inside.barrier;
    }) c.args.self.now.replica c.in_ok-raft.raft
    (received c.args.self.now.replica.raft c.args.from c.args.message) c.in_ok-refresh.refresh
    c.args.self.now.replica.applied.index c.args.self.now.replica.applied.state
    (ap (λ s. record {
      raft = s;
      applied = c.self.inside.source.state.history;
      latches = c.self.inside.latches.list;
      pending = c.self.inside.pending.list;
      assigned = c.self.inside.assigned;
      inbox = c.self.inside.inbox.list;
      asks = c.self.inside.asks.items;
      barrier = c.self.inside.barrier;
    }) c.in_ok-raft.ensures.raft ∙ ap (λ h. h.replica) c.self.view_is)
    (subst (λ h. drafted_by h.replica.raft c.in_ok-raft.raft ≡ received h.replica.raft c.args.from c.args.message) c.self.view_is c.in_ok-raft.ensures.plan.drafts)
    (subst (λ h. done_by h.replica.raft c.in_ok-raft.raft ≡ sent h.replica.applied.index h.replica.applied.state (received h.replica.raft c.args.from c.args.message)) c.self.view_is
    c.in_ok-raft.ensures.plan.does)
    c.in_ok-refresh.ensures c.plan_refresh.ensures.plan

pub returns-clause-read : goal.returns-clause-read
returns-clause-read c =
    delivered_reads c.plan_refresh.result c.args.ticks c.args.round (record {
      raft = c.plan.new.raft.raft;
      applied = c.self.inside.source.state.history;
      latches = c.self.inside.latches.list;
      pending = c.self.inside.pending.list;
      assigned = c.self.inside.assigned;
      inbox = c.self.inside.inbox.list;
      asks = c.self.inside.asks.items;
      barrier = c.self.inside.barrier;
    }) c.args.self.now.replica c.in_ok-raft.raft
    (received c.args.self.now.replica.raft c.args.from c.args.message) c.in_ok-refresh.refresh
    c.args.self.now.replica.applied.index c.args.self.now.replica.applied.state
    (ap (λ s. record {
      raft = s;
      applied = c.self.inside.source.state.history;
      latches = c.self.inside.latches.list;
      pending = c.self.inside.pending.list;
      assigned = c.self.inside.assigned;
      inbox = c.self.inside.inbox.list;
      asks = c.self.inside.asks.items;
      barrier = c.self.inside.barrier;
    }) c.in_ok-raft.ensures.raft ∙ ap (λ h. h.replica) c.self.view_is)
    (subst (λ h. drafted_by h.replica.raft c.in_ok-raft.raft ≡ received h.replica.raft c.args.from c.args.message) c.self.view_is c.in_ok-raft.ensures.plan.drafts)
    (subst (λ h. done_by h.replica.raft c.in_ok-raft.raft ≡ sent h.replica.applied.index h.replica.applied.state (received h.replica.raft c.args.from c.args.message)) c.self.view_is
    c.in_ok-raft.ensures.plan.does)
    c.in_ok-refresh.ensures c.plan_refresh.ensures.read

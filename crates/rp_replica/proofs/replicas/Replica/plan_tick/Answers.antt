use Rattle.std.proofs.Common.{◌≡◌, ap, subst, ◌∙◌}
use Rattle.rp_raft.specs.Plans.{drafted_by, head_after}
use Rattle.rp_raftstep.specs.Step.{tick}
use Rattle.rp_pending.specs.Refreshes.{to_refresh}
use Rattle.rp_events.specs.Refreshes.{refreshing, with_taken}
use Rattle.rp_events.specs.Replicas.{has_new_leader, untold}
use Rattle.rp_replica.proofs.Ticking.{leader_after, planned_as, reads_as, tick_refresh, tick_taken}
use Rattle.rp_replica.proofs.replicas.Replica.plan_tick.Goals as goal

pub plan_refresh-requires-clause-refresh : goal.plan_refresh-requires-clause-refresh
plan_refresh-requires-clause-refresh c =
    tick_refresh (record {
      raft = c.plan.new.raft.raft;
      applied = c.self.inside.source.state.history;
      latches = c.self.inside.latches.list;
      pending = c.self.inside.pending.list;
      assigned = c.self.inside.assigned;
      inbox = c.self.inside.inbox.list;
      asks = c.self.inside.asks.items;
      barrier = c.self.inside.barrier;
    }) c.in_ok-raft.raft c.in_ok-refresh.refresh c.args.ticks c.has_new_leader-all.result
    (tick_taken c.self.inside.raft.raft c.in_ok-raft.raft c.in_ok-raft.ensures.plan.drafts)
    (c.in_ok-refresh.ensures ∙ ap (λ l. to_refresh l c.args.ticks c.has_new_leader-all.result c.self.inside.pending.list) c.lai-lai.ensures)

pub returns-clause-plan : goal.returns-clause-plan
returns-clause-plan c =
    planned_as c.plan_refresh.result c.args.ticks c.args.round (record {
      raft = c.plan.new.raft.raft;
      applied = c.self.inside.source.state.history;
      latches = c.self.inside.latches.list;
      pending = c.self.inside.pending.list;
      assigned = c.self.inside.assigned;
      inbox = c.self.inside.inbox.list;
      asks = c.self.inside.asks.items;
      barrier = c.self.inside.barrier;
    }) c.args.self.now.replica c.in_ok-raft.raft (tick c.args.self.now.replica.raft) (untold c.args.self.now.replica) c.in_ok-refresh.refresh
    (refreshing c.args.self.now.replica c.args.ticks (has_new_leader c.args.self.now.replica.raft.head (tick c.args.self.now.replica.raft).state.head))
    (ap (λ s. record {
      raft = s;
      applied = c.self.inside.source.state.history;
      latches = c.self.inside.latches.list;
      pending = c.self.inside.pending.list;
      assigned = c.self.inside.assigned;
      inbox = c.self.inside.inbox.list;
      asks = c.self.inside.asks.items;
      barrier = c.self.inside.barrier;
    }) c.in_ok-raft.ensures.raft ∙ ap (λ h. h.replica) c.self.view_is)
    (subst (λ h. drafted_by h.replica.raft c.in_ok-raft.raft ≡ tick h.replica.raft) c.self.view_is c.in_ok-raft.ensures.plan.drafts)
    (ap (with_taken c.args.self.now.replica) (tick_taken c.self.inside.raft.raft c.in_ok-raft.raft c.in_ok-raft.ensures.plan.drafts))
    (c.in_ok-refresh.ensures
    ∙ ap (λ l. to_refresh l c.args.ticks c.has_new_leader-all.result c.self.inside.pending.list) c.lai-lai.ensures
    ∙ ap (λ h. refreshing h.replica c.args.ticks c.has_new_leader-all.result) c.self.view_is
    ∙ ap (refreshing c.args.self.now.replica c.args.ticks)
    (c.has_new_leader-all.ensures
    ∙ ap (λ s. has_new_leader s.head (head_after c.in_ok-raft.raft)) c.in_ok-raft.ensures.raft
    ∙ leader_after c.self.inside.raft.raft.head c.self.inside.raft.raft c.in_ok-raft.raft _ _ (tick c.self.inside.raft.raft) c.in_ok-raft.ensures.plan.does
    ∙ ap (λ h. has_new_leader h.replica.raft.head (tick h.replica.raft).state.head) c.self.view_is))
    c.plan_refresh.ensures.plan

pub returns-clause-read : goal.returns-clause-read
returns-clause-read c =
    reads_as c.plan_refresh.result c.args.ticks c.args.round (record {
      raft = c.plan.new.raft.raft;
      applied = c.self.inside.source.state.history;
      latches = c.self.inside.latches.list;
      pending = c.self.inside.pending.list;
      assigned = c.self.inside.assigned;
      inbox = c.self.inside.inbox.list;
      asks = c.self.inside.asks.items;
      barrier = c.self.inside.barrier;
    }) c.args.self.now.replica c.in_ok-raft.raft (tick c.args.self.now.replica.raft) (untold c.args.self.now.replica) c.in_ok-refresh.refresh
    (refreshing c.args.self.now.replica c.args.ticks (has_new_leader c.args.self.now.replica.raft.head (tick c.args.self.now.replica.raft).state.head))
    (ap (λ s. record {
      raft = s;
      applied = c.self.inside.source.state.history;
      latches = c.self.inside.latches.list;
      pending = c.self.inside.pending.list;
      assigned = c.self.inside.assigned;
      inbox = c.self.inside.inbox.list;
      asks = c.self.inside.asks.items;
      barrier = c.self.inside.barrier;
    }) c.in_ok-raft.ensures.raft ∙ ap (λ h. h.replica) c.self.view_is)
    (subst (λ h. drafted_by h.replica.raft c.in_ok-raft.raft ≡ tick h.replica.raft) c.self.view_is c.in_ok-raft.ensures.plan.drafts)
    (ap (with_taken c.args.self.now.replica) (tick_taken c.self.inside.raft.raft c.in_ok-raft.raft c.in_ok-raft.ensures.plan.drafts))
    (c.in_ok-refresh.ensures
    ∙ ap (λ l. to_refresh l c.args.ticks c.has_new_leader-all.result c.self.inside.pending.list) c.lai-lai.ensures
    ∙ ap (λ h. refreshing h.replica c.args.ticks c.has_new_leader-all.result) c.self.view_is
    ∙ ap (refreshing c.args.self.now.replica c.args.ticks)
    (c.has_new_leader-all.ensures
    ∙ ap (λ s. has_new_leader s.head (head_after c.in_ok-raft.raft)) c.in_ok-raft.ensures.raft
    ∙ leader_after c.self.inside.raft.raft.head c.self.inside.raft.raft c.in_ok-raft.raft _ _ (tick c.self.inside.raft.raft) c.in_ok-raft.ensures.plan.does
    ∙ ap (λ h. has_new_leader h.replica.raft.head (tick h.replica.raft).state.head) c.self.view_is))
    c.plan_refresh.ensures.read

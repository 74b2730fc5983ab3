use Rattle.std.proofs.Common.{◌≡◌, subst}
use Rattle.rp_events.specs.declared.answers.EventAnswer.TheVariants as answers
use Rattle.rp_replica.specs.Plans.{Left, planned}
use Rattle.rp_replica.specs.declared.plans.ReplicaPlan.TheVariants.{HandsOver}
use Rattle.rp_replica.proofs.Flushing.{handed_over}
use Rattle.rp_replica.proofs.replicas.Replica.hand_over.Goals as goal

pub returns : goal.returns
returns c =
    subst (λ h. ◌≡◌ {A = Left} (record {
      replica = c.make_moves.new.self.replica;
      answer = answers.Done;
      messages = c.commit-messages.result.messages;
      outcomes = c.args.hand.outcomes;
    }) (planned h.replica (HandsOver c.args.hand))) c.self.view_is
    (handed_over (record {
      raft = c.self.inside.raft.raft;
      applied = c.self.inside.source.state.history;
      latches = c.self.inside.latches.list;
      pending = c.self.inside.pending.list;
      assigned = c.self.inside.assigned;
      inbox = c.self.inside.inbox.list;
      asks = c.self.inside.asks.items;
      barrier = c.self.inside.barrier;
    }) c.args.hand c.commit-messages.new.raft.raft _ _ c.open.new.self.replica c.take_in_where.new.self.replica _ _
    c.commit-messages.ensures c.open.ensures.replica c.take_in_where.ensures.replica c.as_slice-2.ensures c.make_moves.ensures)

use Rattle.std.proofs.Common.{◌+◌, ◌<◌, ◌^◌, length, map, Some, ap, sym, subst, ◌∙◌}
use Rattle.std.specs.List.{IsDistinct}
use Rattle.rp_base.specs.Ids.{same_id}
use Rattle.rp_raftlog.specs.LogState.{last_index}
use Rattle.rp_raftstep.specs.Conditions.{CanRise}
use Rattle.rp_raftstep.specs.Step.{propose, step}
use Rattle.rp_raftstep.specs.declared.events.RaftEvent.TheVariants.{Propose}
use Rattle.rp_raft.specs.Plans.{IsMadeIn, Makes}
use Rattle.rp_replica.specs.Handing.{EachReads}
use Rattle.rp_replica.proofs.Flushing.{flush_plan, flush_spelled, may_propose}
use Rattle.rp_replica.proofs.replicas.Replica.plan_flush.Goals as goal

pub plan-requires : goal.plan-requires
plan-requires c =
    subst (λ h. CanRise h.replica.raft × (last_index h.replica.raft.log + length c.in_ok-draft.draft.bytes < 2 ^ 64)) (sym c.self.view_is)
    (may_propose c.args.self.now.replica c.in_ok-draft.draft.bytes c.in_ok-draft.draft.moves (record { assigned = c.requires.assigned; rise = c.requires.rise; last = c.requires.last })
    c.in_ok-draft.ensures.moves c.in_ok-draft.ensures.bytes)

pub returns-clause-plan : goal.returns-clause-plan
returns-clause-plan c =
    flush_plan c.args.self.now.replica (record {
      raft = c.in_ok-raft.raft;
      moves = c.in_ok-draft.draft.moves;
      ticks = c.args.ticks;
      round = c.args.round;
      last = Some c.in_ok-draft.draft.last;
      back = 0;
      outcomes = c.in_ok-draft.draft.outcomes;
    }) c.in_ok-draft.draft.bytes
    (subst (λ h. IsDistinct same_id (map (λ p. p.id) h.replica.pending)) c.self.view_is c.ids_are_distinct.ensures)
    (subst (λ s. IsMadeIn s c.in_ok-raft.raft) (c.in_ok-raft.ensures.raft ∙ ap (λ h. h.replica.raft) c.self.view_is) c.in_ok-raft.ensures.fits.made)
    (subst (λ h. Makes h.replica.raft c.in_ok-raft.raft (propose h.replica.raft c.in_ok-draft.draft.bytes)
    (step h.replica.applied.index h.replica.applied.state h.replica.raft (Propose c.in_ok-draft.draft.bytes))) c.self.view_is c.in_ok-raft.ensures.plan)
    c.in_ok-draft.ensures.moves c.in_ok-draft.ensures.bytes c.in_ok-draft.ensures.outcomes (ap Some c.in_ok-draft.ensures.last)

pub returns-clause-read : goal.returns-clause-read
returns-clause-read c =
    subst EachReads
    (flush_spelled c.args.self.now.replica c.args.ticks c.args.round c.in_ok-draft.draft.moves c.in_ok-draft.draft.bytes
    (subst (λ h. IsDistinct same_id (map (λ p. p.id) h.replica.pending)) c.self.view_is c.ids_are_distinct.ensures)
    c.in_ok-draft.ensures.moves c.in_ok-draft.ensures.bytes)
    c.in_ok-draft.ensures.read

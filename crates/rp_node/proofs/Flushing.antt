-- A flush of an empty inbox, at a replica that does not lead, leaves its node as it is.
use Rattle.std.proofs.Common.{◌≡◌, ℕ, max, Bool, false, cond, List, [], None, refl, sym, ap, ◌∙◌}
use Rattle.rp_base.specs.declared.items.Item.{Item}
use Rattle.rp_raftstep.specs.RaftState.{RaftState, is_leader}
use Rattle.rp_raftstep.specs.Step as steps
use Rattle.rp_raftstep.specs.Step.{advanced, committable, quiet, step_then}
use Rattle.rp_raftstep.proofs.Steps.{step_then-nil}
use Rattle.rp_request.specs.Applied.{AppliedState}
use Rattle.rp_flush.specs.Assigns.{assigned_of}
use Rattle.rp_pending.specs.Refreshes.{waiting_of}
use Rattle.rp_events.specs.Flushes.{flushed, flushed_by}
use Rattle.rp_events.specs.Replicas.{Replica, Done, lease_of, leaves}
use Rattle.rp_events.specs.declared.answers.EventAnswer.TheVariants as answers
use Rattle.rp_events.specs.declared.replica_events.ReplicaEvent.TheVariants as at_replica
use Rattle.rp_events.specs.Nodes.{Node, Status, Absent, Live, Removed, seat}
use Rattle.rp_events.specs.NodeEvents.{after_replica, by_status, by_replica}
use Rattle.rp_node.specs.Idles.{IsIdle}
use Rattle.rp_node.specs.Plans.{answered}
use Rattle.rp_node.proofs.Idling.{stays_so}

-- Raft, where it does not lead, stays as it is behind a Propose of nothing, and sends nothing
stays_put : (st : RaftState) → is_leader st.head.role ≡ false → advanced st ≡ st
stays_put st e =
    ap (λ (leads : Bool). cond leads (record st { head = record st.head { commit = max st.head.commit (committable st) } }) st) e

nothing_sent : (r : Replica) → is_leader r.raft.head.role ≡ false
    → step_then r.applied.index r.applied.state (quiet r.raft) []
    ≡ record { state = r.raft; out = record { messages = []; taken = None } }
nothing_sent r e =
    step_then-nil r.applied.index r.applied.state (quiet r.raft)
    ∙ ap (λ (st : RaftState). record { state = st; out = record { messages = []; taken = None } }) (stays_put r.raft e)

-- so a flush of an empty inbox leaves the replica, and hands out nothing
idle_flush : (r : Replica) (ticks round : ℕ) → r.inbox ≡ [] → is_leader r.raft.head.role ≡ false
    → flushed r ticks round ≡ leaves r answers.Done
idle_flush r ticks round empty e =
    ap (λ (inbox : List Item). flushed_by r ticks round (assigned_of inbox (waiting_of r.pending) (lease_of r).seq r.applied.state.lai r.assigned)) empty
    ∙ ap (λ (d : steps.Done AppliedState). record {
      replica = record r { raft = d.state; inbox = [] };
      answer = answers.Done;
      messages = d.out.messages;
      outcomes = [];
      proposed = [];
      right = None;
    }) (nothing_sent r e)
    ∙ ap (λ (inbox : List Item). leaves (record r { inbox = inbox }) answers.Done) (sym empty)

-- and its node
by_idle : (n : Node) (range : ℕ) (s : Status) → seat n range ≡ s → IsIdle s → by_status n range at_replica.Flush [] s ≡ answered n answers.Done
by_idle n range Absent here idle = absurd idle
by_idle n range (Live r) here idle =
    ap (λ (d : Done). answered (after_replica n range at_replica.Flush d) d.answer) (idle_flush r n.ticks n.rounds idle.0 idle.1)
    ∙ ap (λ (m : Node). answered m answers.Done) (stays_so n range r here)
by_idle n range (Removed applied) here idle = absurd idle

pub flushes_nothing : (n : Node) (range : ℕ) → IsIdle (seat n range) → by_replica n range at_replica.Flush [] ≡ answered n answers.Done
flushes_nothing n range idle = by_idle n range (seat n range) refl idle

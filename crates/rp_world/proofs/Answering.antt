-- No event but a peek is answered by a value.
use Rattle.std.proofs.Common.{◌≡◌, ℕ, Bool, true, false, Option, None, Some, Result, Ok, Err, List, [], cond, refl, ◌+◌}
use Rattle.rp_base.specs.declared.items.Item.{Item}
use Rattle.rp_request.specs.Applied.{AppliedState}
use Rattle.rp_request.specs.declared.commands.Payload.{Payload}
use Rattle.rp_request.specs.declared.evaluations.Evaluated.{Evaluated}
use Rattle.rp_request.specs.declared.outcomes.Refusal.{Refusal}
use Rattle.rp_request.specs.declared.outcomes.Refusal.TheVariants.{NotLeaseHolder}
use Rattle.rp_events.specs.declared.answers.EventAnswer.TheVariants as answers
use Rattle.rp_events.specs.declared.node_events.Event.{Event}
use Rattle.rp_events.specs.declared.node_events.Event.TheVariants as node_events
use Rattle.rp_events.specs.declared.replica_events.ReplicaEvent.{ReplicaEvent}
use Rattle.rp_events.specs.declared.replica_events.ReplicaEvent.TheVariants as at_replica
use Rattle.rp_events.specs.Admissions.{admitted_by, guarded}
use Rattle.rp_events.specs.Applications.{applied_where, next_entry, payload_of}
use Rattle.rp_events.specs.LeaseAsks.{answers_ask, ask_for, expiry_of, is_held, lease_ticks}
use Rattle.rp_events.specs.Replicas.{Replica, Done, holds_lease, lease_of, leaves}
use Rattle.rp_events.specs.ReplicaEvents.{event}
use Rattle.rp_events.specs.Nodes.{Node, Status, Absent, Live, Removed, seat}
use Rattle.rp_events.specs.NodeEvents.{acted, by_status, step, with_request}
use Rattle.rp_world.specs.Comes.{is_value}

-- the replica's event reads a key, or is answered at its node
abbrev reads : ReplicaEvent AppliedState → Bool
reads (at_replica.Peek key) = true
reads at_replica.Tick = true
reads (at_replica.Deliver from message) = true
reads at_replica.Restart = true
reads _ = false

replica_tells_none : (r : Replica) (e : ReplicaEvent AppliedState) (ticks round : ℕ) (taken : List Item) → reads e ≡ false → is_value (event r e ticks round taken).answer ≡ false
replica_tells_none r (at_replica.Admit id request) ticks round taken h = go (guarded r request) where
  go : (o : Result Evaluated Refusal) → is_value (admitted_by r id request o).answer ≡ false
  go (Ok e) = refl
  go (Err refusal) = refl
replica_tells_none r at_replica.Ask ticks round taken h = go (is_held r ticks) where
  go : (b : Bool) → is_value (cond b (leaves r (answers.LeaseHeld (lease_of r) ticks)) (answers_ask r (ask_for r r.raft.head.node (expiry_of r ticks)))).answer ≡ false
  go true = refl
  go false = refl
replica_tells_none r (at_replica.Transfer to) ticks round taken h = go (holds_lease r) where
  go : (b : Bool) → is_value (cond b (answers_ask r (ask_for r to (ticks + lease_ticks))) (leaves r (answers.Refused (NotLeaseHolder (lease_of r))))).answer ≡ false
  go true = refl
  go false = refl
replica_tells_none r at_replica.Collect ticks round taken h = refl
replica_tells_none r at_replica.Flush ticks round taken h = refl
replica_tells_none r at_replica.Tick ticks round taken h = absurd cc
replica_tells_none r (at_replica.Deliver from message) ticks round taken h = absurd cc
replica_tells_none r at_replica.Apply ticks round taken h = go (payload_of (next_entry r)) where
  go : (o : Option Payload) → is_value (applied_where r o).answer ≡ false
  go None = refl
  go (Some p) = refl
replica_tells_none r at_replica.Cut ticks round taken h = refl
replica_tells_none r at_replica.Remove ticks round taken h = refl
replica_tells_none r (at_replica.Peek key) ticks round taken h = absurd cc
replica_tells_none r at_replica.Restart ticks round taken h = absurd cc

status_tells_none : (n : Node) (range : ℕ) (e : ReplicaEvent AppliedState) (taken : List Item) (status : Status) → reads e ≡ false → is_value (by_status n range e taken status).answer ≡ false
status_tells_none n range e taken Absent h = refl
status_tells_none n range e taken (Live r) h = replica_tells_none r e n.ticks n.rounds taken h
status_tells_none n range e taken (Removed applied) h = refl

-- the node's event reads a key
abbrev pub reads_key : Event AppliedState → Bool
reads_key (node_events.Peek range key) = true
reads_key _ = false

pub step_tells_none : (n : Node) (e : Event AppliedState) (taken : List Item) → reads_key e ≡ false → is_value (step n e taken).answer ≡ false
step_tells_none n (node_events.Admit range id request) taken h = status_tells_none (with_request n request) range (at_replica.Admit id request) [] (seat n range) refl
step_tells_none n (node_events.Ask range) taken h = status_tells_none n range at_replica.Ask [] (seat n range) refl
step_tells_none n (node_events.Transfer range to) taken h = status_tells_none n range (at_replica.Transfer to) [] (seat n range) refl
step_tells_none n (node_events.Collect range) taken h = status_tells_none n range at_replica.Collect taken (seat n range) refl
step_tells_none n (node_events.Flush range) taken h = status_tells_none n range at_replica.Flush [] (seat n range) refl
step_tells_none n node_events.Tick taken h = refl
step_tells_none n (node_events.Deliver from range number message) taken h = refl
step_tells_none n (node_events.Apply range) taken h = status_tells_none n range at_replica.Apply [] (seat n range) refl
step_tells_none n (node_events.Cut range) taken h = status_tells_none n range at_replica.Cut [] (seat n range) refl
step_tells_none n (node_events.Remove range) taken h = status_tells_none n range at_replica.Remove [] (seat n range) refl
step_tells_none n (node_events.Peek range key) taken h = absurd cc
step_tells_none n node_events.Restart taken h = refl
step_tells_none n node_events.Round taken h = refl

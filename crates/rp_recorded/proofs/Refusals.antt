-- What is refused at an admission can be shown where the replica's description can.
use Rattle.std.proofs.Common.{◌≡◌, ◌+◌, ◌-◌, ◌==◌, ℕ, Bool, true, false, cond, nat_lt, Result, Ok, Err, List, [], refl}
use Rattle.std.specs.Prelude.{if◌then◌else◌}
use Rattle.std.specs.Option.{option_eq}
use Rattle.std.specs.FinMap.{get, insert}
use Rattle.rp_base.specs.Keys.{end_of}
use Rattle.rp_base.specs.Splits.{split_of}
use Rattle.rp_base.specs.Tables.{Table, count_in, greatest, holds_text, value_at, without}
use Rattle.rp_base.specs.Values.{value_eq}
use Rattle.rp_base.specs.declared.ids.CmdId.{CmdId}
use Rattle.rp_base.specs.declared.items.Item.{Item}
use Rattle.rp_base.specs.declared.leases.Lease as leases
use Rattle.rp_base.specs.declared.ranges.Desc.{Desc}
use Rattle.rp_base.specs.declared.ranges.SplitFault.{SplitFault}
use Rattle.rp_base.specs.declared.ranges.SplitFault.TheVariants as faults
use Rattle.rp_base.specs.declared.values.Value.TheVariants.{Number}
use Rattle.rp_latch.specs.Holds.{answer}
use Rattle.rp_latch.specs.declared.holds.Held.{Held}
use Rattle.rp_request.specs.Applied.{AppliedState}
use Rattle.rp_request.specs.Batches.{batch_of}
use Rattle.rp_request.specs.Covers.{in_bounds, spans_of}
use Rattle.rp_request.specs.Effect.{Effect, effect, give, pass_on, raise, split, writes}
use Rattle.rp_request.specs.Evaluations.{evaluated, with_batch}
use Rattle.rp_request.specs.declared.commands.Op.{Op}
use Rattle.rp_request.specs.declared.evaluations.Evaluated.{Evaluated}
use Rattle.rp_request.specs.declared.outcomes.Refusal.{Refusal}
use Rattle.rp_request.specs.declared.outcomes.Refusal.TheVariants as refusals
use Rattle.rp_request.specs.declared.outcomes.Reply.TheVariants.{Now, Set, Count}
use Rattle.rp_request.specs.declared.requests.Request.{Request}
use Rattle.rp_request.specs.declared.requests.Request.TheVariants.{Put, Add, CPut, Del, Wipe, Move, Split}
use Rattle.rp_report.specs.Shown.{IsShownDesc, IsShownRefusal}
use Rattle.rp_events.specs.declared.answers.EventAnswer.{EventAnswer}
use Rattle.rp_events.specs.declared.answers.EventAnswer.TheVariants as answers
use Rattle.rp_events.specs.declared.journals.PastEvent.TheVariants as past
use Rattle.rp_events.specs.declared.node_events.Event.{Event}
use Rattle.rp_events.specs.declared.node_events.Event.TheVariants as events
use Rattle.rp_events.specs.declared.replica_events.ReplicaEvent.TheVariants as at_replica
use Rattle.rp_events.specs.Admissions.{may_admit, unlatched, guarded, admitted_by}
use Rattle.rp_events.specs.Replicas.{Replica, lease_of}
use Rattle.rp_events.specs.Nodes.{Node, Status, Absent, Live, Removed, seat}
use Rattle.rp_events.specs.NodeEvents.{by_status, past_of, step, with_request}

-- what refuses an evaluation can be shown
abbrev EffectShown : Result Effect Refusal → Type 0
EffectShown (Ok e) = Unit {0}
EffectShown (Err refusal) = IsShownRefusal refusal

abbrev GuardShown : Result Evaluated Refusal → Type 0
GuardShown (Ok e) = Unit {0}
GuardShown (Err refusal) = IsShownRefusal refusal

either : (b : Bool) (x y : Result Effect Refusal) → EffectShown x → EffectShown y → EffectShown (cond b x y)
either true x y h k = h
either false x y h k = k

split_shown : (t : Table) (key : ℕ) (parts : Result (Desc × Desc) SplitFault) → EffectShown (split t key parts)
split_shown t key (Ok parts) = tt
split_shown t key (Err faults.NotInside) = tt
split_shown t key (Err (faults.SplitLimit level)) = tt

effect_shown : (t : Table) (d : Desc) (q : Request) → EffectShown (effect t d q)
effect_shown t d (Put key value) = tt
effect_shown t d (Add key by) =
    either (holds_text t key) (Err (refusals.IsText key)) (raise t d key by) tt
    (either (nat_lt greatest (value_at t key + by)) (Err (refusals.Overflow (value_at t key)))
    (writes (insert t key (Number (value_at t key + by))) d (Now (value_at t key + by))) tt tt)
effect_shown t d (CPut key expect value) = either (option_eq value_eq (get t key) expect) (writes (insert t key value) d Set) (Err (refusals.ConditionFailed (get t key))) tt tt
effect_shown t d (Del key) = tt
effect_shown t d (Wipe span) =
    either (nat_lt 16 (count_in t span.start (end_of span.end))) (Err (refusals.TooWide (count_in t span.start (end_of span.end))))
    (writes (without t span.start (end_of span.end)) d (Count (count_in t span.start (end_of span.end)))) tt tt
effect_shown t d (Move from to by) =
    either (holds_text t from) (Err (refusals.IsText from)) (if holds_text t to then Err (refusals.IsText to) else give t d from to by) tt
    (either (holds_text t to) (Err (refusals.IsText to)) (give t d from to by) tt
    (either (nat_lt (value_at t from) by) (Err (refusals.Short (value_at t from)))
    (if from == to then writes (insert t from (Number (value_at t from))) d (Now (value_at t from)) else pass_on t d from to by) tt
    (either (from == to) (writes (insert t from (Number (value_at t from))) d (Now (value_at t from))) (pass_on t d from to by) tt
    (either (nat_lt greatest (value_at t to + by)) (Err (refusals.Overflow (value_at t to)))
    (writes (insert (insert t from (Number (value_at t from - by))) to (Number (value_at t to + by))) d (Now (value_at t from - by))) tt tt))))
effect_shown t d (Split key) = split_shown t key (split_of d key)

batch_shown : (ops : List Op) (e : Result Effect Refusal) → EffectShown e → GuardShown (with_batch ops e)
batch_shown ops (Ok e) h = tt
batch_shown ops (Err refusal) h = h

unlatched_shown : (a : Result (Unit {0}) Held) (x : Result Evaluated Refusal) → GuardShown x → GuardShown (unlatched a x)
unlatched_shown (Ok tt) x h = h
unlatched_shown (Err held) x h = tt

guards : (b c : Bool) (x : Result Evaluated Refusal) (d : Desc) (lease : leases.Lease) → GuardShown x → IsShownDesc d
    → GuardShown (cond b (cond c x (Err (refusals.RangeMismatch d))) (Err (refusals.NotLeaseHolder lease)))
guards true true x d lease h k = h
guards true false x d lease h k = k
guards false c x d lease h k = tt

guarded_shown : (r : Replica) (q : Request) → IsShownDesc r.applied.state.desc → GuardShown (guarded r q)
guarded_shown r q h =
    guards (may_admit r) (in_bounds r.applied.state.desc q)
    (unlatched (answer r.latches (spans_of q)) (evaluated r.applied.state.table r.applied.state.desc q)) r.applied.state.desc (lease_of r)
    (unlatched_shown (answer r.latches (spans_of q)) (evaluated r.applied.state.table r.applied.state.desc q)
    (batch_shown (batch_of r.applied.state.table q) (effect r.applied.state.table r.applied.state.desc q) (effect_shown r.applied.state.table r.applied.state.desc q)))
    h

-- what a refusal in an answer names can be shown
abbrev pub IsShownIn : EventAnswer → Type 0
IsShownIn answers.Done = Unit {0}
IsShownIn answers.Nothing = Unit {0}
IsShownIn answers.Admitted = Unit {0}
IsShownIn (answers.Asked ask) = Unit {0}
IsShownIn (answers.Refused refusal) = IsShownRefusal refusal
IsShownIn (answers.LeaseHeld lease ticks) = Unit {0}
IsShownIn (answers.Value value applied) = Unit {0}

admitted_shown : (r : Replica) (id : CmdId) (q : Request) (g : Result Evaluated Refusal) → GuardShown g → IsShownIn (admitted_by r id q g).answer
admitted_shown r id q (Ok e) h = tt
admitted_shown r id q (Err refusal) h = h

-- the answer to an admission at a node
pub answer_shown : (n : Node) (range : ℕ) (id : CmdId) (q : Request) (status : Status) → ((r : Replica) → status ≡ Live r → IsShownDesc r.applied.state.desc)
    → IsShownIn (by_status (with_request n q) range (at_replica.Admit id q) [] status).answer
answer_shown n range id q Absent h = tt
answer_shown n range id q (Live r) h = admitted_shown r id q (guarded r q) (guarded_shown r q (h r refl))
answer_shown n range id q (Removed applied) h = tt

-- so it is of each event that the journal keeps as an admission
pub entry_shown : (n : Node) (taken : List Item) → ((range : ℕ) (r : Replica) → seat n range ≡ Live r → IsShownDesc r.applied.state.desc)
    → (ev : Event AppliedState) (range : ℕ) (id : CmdId) (at : ℕ) → past_of n ev taken ≡ past.Admit range id at → IsShownIn (step n ev taken).answer
entry_shown n taken h (events.Admit r i q) range id at e = answer_shown n r i q (seat n r) (h r)
entry_shown n taken h (events.Ask r) range id at e = absurd cc
entry_shown n taken h (events.Transfer r to) range id at e = absurd cc
entry_shown n taken h (events.Collect r) range id at e = absurd cc
entry_shown n taken h (events.Flush r) range id at e = absurd cc
entry_shown n taken h events.Tick range id at e = absurd cc
entry_shown n taken h (events.Deliver from r number m) range id at e = absurd cc
entry_shown n taken h (events.Apply r) range id at e = absurd cc
entry_shown n taken h (events.Cut r) range id at e = absurd cc
entry_shown n taken h (events.Remove r) range id at e = absurd cc
entry_shown n taken h (events.Peek r key) range id at e = absurd cc
entry_shown n taken h events.Restart range id at e = absurd cc
entry_shown n taken h events.Round range id at e = absurd cc

-- An event of a replica that admits nothing, as the machine's part at its seat, whatever its attempts were
-- told that have ended.
use Rattle.std.proofs.Common.{◌≡◌, ℕ, ◌+◌, Bool, true, false, cond, Option, None, Some, Err, List, [], refl, sym, ap, subst}
use Rattle.std.proofs.lemmas.Bool.{cond_both}
use Rattle.rp_base.specs.declared.ids.CmdId.{CmdId}
use Rattle.rp_base.specs.declared.items.Item.{Item}
use Rattle.rp_request.specs.Applied.{AppliedState}
use Rattle.rp_request.specs.declared.commands.Payload.{Payload}
use Rattle.rp_request.specs.declared.outcomes.Outcome.{Outcome}
use Rattle.rp_request.specs.declared.outcomes.Refusal.{Refusal}
use Rattle.rp_request.specs.declared.outcomes.Refusal.TheVariants.{NotLeaseHolder}
use Rattle.rp_raftsafe.specs.World as raft
use Rattle.rp_raftsafe.specs.Safety.{OneList}
use Rattle.rp_rangesafe.specs.Attempts.{Stage, Unborn, Waiting, Proposed, Success, Refused, Overtaken, Removed, Restarted, IsBorn}
use Rattle.rp_rangesafe.specs.World as machine
use Rattle.rp_rangesafe.specs.World.{here}
use Rattle.rp_events.specs.declared.answers.EventAnswer.TheVariants as answers
use Rattle.rp_events.specs.declared.replica_events.ReplicaEvent.{ReplicaEvent}
use Rattle.rp_events.specs.declared.replica_events.ReplicaEvent.TheVariants.{Admit, Ask, Transfer, Collect, Flush, Tick, Deliver, Apply, Cut, Remove, Peek, Restart}
use Rattle.rp_events.specs.Replicas.{Replica, Done, leaves, lease_of, holds_lease}
use Rattle.rp_events.specs.Admissions.{guarded, admitted_by}
use Rattle.rp_events.specs.LeaseAsks.{is_held, answers_ask, ask_for, expiry_of, lease_ticks}
use Rattle.rp_events.specs.Applications.{payload_of, next_entry, applied_where}
use Rattle.rp_events.specs.ReplicaEvents.{event}
use Rattle.rp_events.specs.Nodes.{Node, Live, parcel_of}
use Rattle.rp_events.specs.NodeEvents.{status_after}
use Rattle.rp_events.specs.Worlds.{World, sent_by, outcome_at}
use Rattle.rp_seats.specs.Standing.{SeatOk}
use Rattle.rp_seats.specs.Steps.{EndEach}
use Rattle.rp_seats.specs.Turned.{SeatTurned, IsSeated}
use Rattle.rp_seats.proofs.Bound.{seat_told}
use Rattle.rp_seats.proofs.Events as seat_events
use Rattle.rp_seats.proofs.Messages.{jumps, message_turn}
use Rattle.rp_seats.proofs.Seats.{quiet_turn, items_seat, flush_turn, tick_turn, apply_turn, remove_turn, restart_turn}
use Rattle.rp_turns.specs.Fitting.{IsFit}
use Rattle.rp_turns.proofs.Widths.{fits_pending, fits_flushed, fits_ticked, fits_delivered}

-- what an event brings: a message was sent to the range, and an admission is refused
abbrev pub MayHappen : World → (range : ℕ) → Replica → ReplicaEvent AppliedState → Type 0
MayHappen w range r (Admit id request) = (why : Refusal) × (guarded r request ≡ Err why)
MayHappen w range r (Deliver from m) =
    (number : ℕ) × (to : ℕ) × (parcel_of (sent_by w from) number ≡ Some (record { to = to; range = range; message = m }))
MayHappen w range r _ = Unit {0}

module _ (lists : OneList AppliedState) (range : ℕ) (s : AppliedState) (seen : List raft.Event) (w : World) (h : machine.World) (node : ℕ) (n : Node) (r : Replica)
    (k : IsSeated lists range s seen w h node n r) (fit : IsFit r) (told : CmdId → Option Outcome) (stands : SeatOk h node range (Live r) told) where
  state : here h node ≡ r.applied.state
  state = seat_events.state lists range s seen w h node n r k

  abbrev Left : ReplicaEvent AppliedState → Done → Type 0
  Left e d = SeatTurned node range h told (status_after e d.replica) d.outcomes d.proposed

  pub event_turn : (e : ReplicaEvent AppliedState) → MayHappen w range r e → (ticks round : ℕ) (taken : List Item) → Left e (event r e ticks round taken)
  event_turn (Admit id request) may ticks round taken = subst (λ g. Left (Admit id request) (admitted_by r id request g)) (sym may.1) (quiet_turn node range h told (Live r) stands)
  event_turn Ask may ticks round taken =
      cond_both (is_held r ticks) (leaves r (answers.LeaseHeld (lease_of r) ticks)) (answers_ask r (ask_for r r.raft.head.node (expiry_of r ticks))) (Left Ask)
      (λ _. quiet_turn node range h told (Live r) stands)
      (λ _. quiet_turn node range h told (Live (answers_ask r (ask_for r r.raft.head.node (expiry_of r ticks))).replica) (record { stands = stands.stands; pending = stands.pending }))
  event_turn (Transfer to) may ticks round taken =
      cond_both (holds_lease r) (answers_ask r (ask_for r to (ticks + lease_ticks))) (leaves r (answers.Refused (NotLeaseHolder (lease_of r)))) (Left (Transfer to))
      (λ _. quiet_turn node range h told (Live (answers_ask r (ask_for r to (ticks + lease_ticks))).replica) (record { stands = stands.stands; pending = stands.pending }))
      (λ _. quiet_turn node range h told (Live r) stands)
  event_turn Collect may ticks round taken =
      quiet_turn node range h told (Live (event r Collect ticks round taken).replica) (items_seat node range h told r taken stands)
  event_turn Flush may ticks round taken = flush_turn node range h told r stands state ticks round taken fit.asks (fits_pending (event r Flush ticks round taken).replica.pending (fits_flushed r ticks round fit))
  event_turn Tick may ticks round taken = tick_turn node range h told r stands state ticks round taken (fits_pending (event r Tick ticks round taken).replica.pending (fits_ticked r ticks round fit.pending))
  event_turn (Deliver from m) may ticks round taken =
      message_turn node range h told r stands state from m ticks round (jumps lists range s seen w h node n r k from may.0 may.1 m may.2)
      (fits_pending (event r (Deliver from m) ticks round []).replica.pending (fits_delivered r from m ticks round fit.pending))
  event_turn Apply may ticks round taken = go (payload_of (next_entry r)) refl where
    go : (o : Option Payload) → payload_of (next_entry r) ≡ o → Left Apply (applied_where r o)
    go None is = quiet_turn node range h told (Live r) stands
    go (Some p) is =
        let there = seat_events.next lists range s seen w h node n r k p is in
        apply_turn node range h told r stands state p there.within there.entry_is
  event_turn Cut may ticks round taken = quiet_turn node range h told (Live (event r Cut ticks round []).replica) (record { stands = stands.stands; pending = stands.pending })
  event_turn Remove may ticks round taken = remove_turn node range h told r stands state
  event_turn (Peek key) may ticks round taken = quiet_turn node range h told (Live r) stands
  event_turn Restart may ticks round taken = restart_turn node range h told r stands state

-- whether an attempt was made
abbrev born : Stage → Bool
born Unborn = false
born Waiting = true
born (Proposed own) = true
born (Success reply) = true
born Refused = true
born (Overtaken own passed) = true
born (Removed own) = true
born (Restarted own) = true

is_born : (s : Stage) → IsBorn s → born s ≡ true
is_born Unborn b = absurd b
is_born Waiting b = refl
is_born (Proposed own) b = refl
is_born (Success reply) b = refl
is_born Refused b = refl
is_born (Overtaken own passed) b = refl
is_born (Removed own) b = refl
is_born (Restarted own) b = refl

not_born : (s : Stage) → (IsBorn s → ⊥) → born s ≡ false
not_born Unborn b = refl
not_born Waiting b = absurd (b tt)
not_born (Proposed own) b = absurd (b tt)
not_born (Success reply) b = absurd (b tt)
not_born Refused b = absurd (b tt)
not_born (Overtaken own passed) b = absurd (b tt)
not_born (Removed own) b = absurd (b tt)
not_born (Restarted own) b = absurd (b tt)

-- what ends in an event of a range's replica are attempts that were made in the range
module _ (lists : OneList AppliedState) (range : ℕ) (s : AppliedState) (seen : List raft.Event) (w : World) (h : machine.World) (node : ℕ) (n : Node) (r : Replica)
    (k : IsSeated lists range s seen w h node n r) (fit : IsFit r) where
  -- of attempts that were not made in the range nothing is told
  abbrev pub told_here : CmdId → Option Outcome
  told_here id = cond (born (h.attempt id).stage) (outcome_at id n) None

  stands : SeatOk h node range (Live r) told_here
  stands = seat_told h node range (Live r) (λ id. outcome_at id n) told_here
      (λ id b. sym (ap (λ t. cond t (outcome_at id n) None) (is_born (h.attempt id).stage b.0)))
      (seat_events.stands lists range s seen w h node n r k)

  pub ends_here : (e : ReplicaEvent AppliedState) → MayHappen w range r e → (ticks round : ℕ) (taken : List Item) → EndEach told_here (event r e ticks round taken).outcomes
  ends_here e may ticks round taken = (event_turn lists range s seen w h node n r k fit told_here stands e may ticks round taken).ends

  pub not_told_here : (id : CmdId) → (IsBorn (h.attempt id).stage → ⊥) → told_here id ≡ None
  not_told_here id ne = ap (λ t. cond t (outcome_at id n) None) (not_born (h.attempt id).stage ne)

-- What an event of a node leaves of what was applied in its seats, which messages are new, and who is newly
-- told Success.
use Rattle.std.proofs.Common.{◌≡◌, ℕ, zero, suc, ◌+◌, ◌<◌, ◌≤◌, ◌⊎◌, inl, inr, ⊎_elim, Option, None, Some, List, [], ◌∷◌, ◌++◌, length, refl, sym, ap, subst, ◌∙◌, arith}
use Rattle.std.specs.Prelude.{Contains, slice_index_or, slice_set}
use Rattle.std.specs.List.{AllByRecursion as Every}
use Rattle.std.proofs.lemmas.Bool.{cases_eq, cases_lt}
use Rattle.std.proofs.lemmas.List.{set-get_or, set_past}
use Rattle.std.proofs.lemmas.List.Elements.{All-contains, All-from_recursion, Contains-append_cases}
use Rattle.rp_base.specs.declared.items.Item.{Item}
use Rattle.rp_raftstep.specs.declared.messages.Message.{Message}
use Rattle.rp_raftstep.specs.declared.messages.Message.TheVariants.{Vote, VoteReply, Append, AppendReply, Forward, Snap}
use Rattle.rp_raftstep.specs.Step.{absent_answer}
use Rattle.rp_request.specs.Applied.{AppliedState}
use Rattle.rp_request.specs.History.{History, reset_to}
use Rattle.rp_request.specs.History as history
use Rattle.rp_request.specs.States.{right_of}
use Rattle.rp_request.specs.declared.commands.Payload.{Payload}
use Rattle.rp_raftsafe.proofs.Snapped.{SnapHas}
use Rattle.rp_raftsafe.proofs.Snapped.{takes_above_holds}
use Rattle.rp_events.specs.declared.answers.Ended.{Ended}
use Rattle.rp_events.specs.declared.answers.EventAnswer.TheVariants as answers
use Rattle.rp_events.specs.declared.parcels.Parcel.{Parcel}
use Rattle.rp_events.specs.declared.node_events.Event.{Event}
use Rattle.rp_events.specs.declared.node_events.Event.TheVariants as events
use Rattle.rp_events.specs.declared.replica_events.ReplicaEvent.{ReplicaEvent}
use Rattle.rp_events.specs.declared.replica_events.ReplicaEvent.TheVariants.{Admit, Ask, Transfer, Collect, Flush, Tick, Deliver, Apply, Cut, Remove, Peek, Restart}
use Rattle.rp_events.specs.Replicas.{Replica, Done, leaves, started, made_by_snap}
use Rattle.rp_events.specs.Applications.{payload_of, next_entry, applied_one, applied_where}
use Rattle.rp_events.specs.ReplicaEvents.{event}
use Rattle.rp_events.specs.Nodes.{Node, Status, Absent, Live, Removed, seat, with_seat, parcels, opened, opened_by, after_turn, range_numbers, right_base, right_base_term}
use Rattle.rp_events.specs.NodeEvents.{status_after, after_replica, live_turn, all_turns, by_status, delivered, seat_by_message, step, with_request}
use Rattle.rp_events.specs.Worlds.{World, node_of}
use Rattle.rp_events.specs.Lists.{history_in}
use Rattle.rp_seats.proofs.Nodes.{seat_same, seat_other, live_within}
use Rattle.rp_promise.specs.Records.{SnapUpTo}
use Rattle.rp_promise.proofs.Replicas.{NoSuccess, UpTo, SentUpTo, Quiet, TakenIn, Delivered, SucceedsAt, AppliedOne, admit_quiet, ask_quiet, transfer_quiet, collect_quiet, flush_quiet, tick_quiet, cut_quiet, peek_quiet, remove_quiet, restart_quiet, delivered_leaves, applied_leaves}

-- what stands in a seat
abbrev pub at_seat : List Status → (range : ℕ) → Status
at_seat seats range = slice_index_or seats range Absent

-- the next entry is applied in this seat
pub record AppliedAt (seats after : List Status) (at : ℕ) (r : Replica) (p : Payload) : Type 0 where
  pub live : at_seat seats at ≡ Live r
  pub carries : payload_of (next_entry r) ≡ Some p
  pub history : history_in (at_seat after at) ≡ Some (history.applied r.applied p)

-- a node of the world has sent this message of the range
pub record WasSent (w : World) (range : ℕ) (message : Message AppliedState) : Type 0 where
  pub from : ℕ
  pub n : Node
  pub has : node_of w from ≡ Some n
  pub parcel : Parcel AppliedState
  pub among : Contains n.sent parcel
  pub own : parcel.range ≡ range
  pub is : parcel.message ≡ message

-- a snapshot of the range with this index was sent
pub record SnapSent (w : World) (range index : ℕ) : Type 0 where
  pub term : ℕ
  pub index_term : ℕ
  pub snapshot : AppliedState
  pub sent : WasSent w range (Snap term index index_term snapshot)

-- a split that is applied in another seat opens the range
pub record SplitNow (seats after : List Status) (range : ℕ) : Type 0 where
  pub at : ℕ
  pub replica : Replica
  pub payload : Payload
  pub applied : AppliedAt seats after at replica payload
  pub right : AppliedState
  pub opens : right_of replica.applied.state payload ≡ Some right
  pub numbered : right.desc.id ≡ range

-- a snapshot is taken in
pub record Jumped (w : World) (seats after : List Status) (range : ℕ) : Type 0 where
  pub before : Replica
  pub replica : Replica
  pub was : at_seat seats range ≡ Live before
  pub is : at_seat after range ≡ Live replica
  pub index : ℕ
  pub state : AppliedState
  pub history : replica.applied ≡ reset_to before.applied state index
  pub sent : SnapSent w range index

-- a replica begins: by a snapshot, or by a split
pub record Begun (w : World) (seats after : List Status) (range : ℕ) : Type 0 where
  pub replica : Replica
  pub was : at_seat seats range ≡ Absent
  pub is : at_seat after range ≡ Live replica
  pub index : ℕ
  pub state : AppliedState
  pub history : replica.applied ≡ history.started state index
  pub source : SnapSent w range index ⊎ ((index ≡ right_base) × SplitNow seats after range)

-- what becomes of what was applied in a seat
pub data Became (w : World) (seats after : List Status) (range : ℕ) : Type 0 where
  kept : history_in (at_seat after range) ≡ history_in (at_seat seats range) → Became w seats after range
  goes : (r : Replica) (p : Payload) → AppliedAt seats after range r p → Became w seats after range
  jumps : Jumped w seats after range → Became w seats after range
  begins : Begun w seats after range → Became w seats after range

-- a new message is of a range that the node has, with a snapshot of no later index than is applied
pub record FromHistory (seats : List Status) (p : Parcel AppliedState) : Type 0 where
  pub past : History
  pub history : history_in (at_seat seats p.range) ≡ Some past
  pub up_to : SnapUpTo past.index p.message

-- or it answers a message of its range, without a snapshot
pub record Answers (w : World) (p : Parcel AppliedState) : Type 0 where
  pub message : Message AppliedState
  pub sent : WasSent w p.range message
  pub up_to : SnapUpTo 0 p.message

-- an attempt's entry is applied here and taken, and it is told Success
pub record PlacedNow (seats after : List Status) (e : Ended) : Type 0 where
  pub at : ℕ
  pub replica : Replica
  pub payload : Payload
  pub applied : AppliedAt seats after at replica payload
  pub succeeds : SucceedsAt replica payload e

-- what an event leaves of a node's seats, sent messages and outcomes
pub record Turned (w : World) (seats after : List Status) (sent sent' : List (Parcel AppliedState)) (outcomes outcomes' : List Ended) : Type 0 where
  pub seats_are : (range : ℕ) → Became w seats after range
  pub sent_are : (p : Parcel AppliedState) → Contains sent' p → Contains sent p ⊎ (FromHistory seats p ⊎ Answers w p)
  pub outcomes_are : (e : Ended) → Contains outcomes' e → Contains outcomes e ⊎ (NoSuccess e ⊎ PlacedNow seats after e)

abbrev pub TurnedTo : World → Node → Node → Type 0
TurnedTo w n new = Turned w n.seats new.seats n.sent new.sent n.outcomes new.outcomes

-- nothing is applied anywhere
record Still (seats after : List Status) (sent sent' : List (Parcel AppliedState)) (outcomes outcomes' : List Ended) : Type 0 where
  seats_are : (range : ℕ) → history_in (at_seat after range) ≡ history_in (at_seat seats range)
  sent_are : (p : Parcel AppliedState) → Contains sent' p → Contains sent p ⊎ FromHistory seats p
  outcomes_are : (e : Ended) → Contains outcomes' e → Contains outcomes e ⊎ NoSuccess e

abbrev StillTo : Node → Node → Type 0
StillTo n new = Still n.seats new.seats n.sent new.sent n.outcomes new.outcomes

still_turned : (w : World) (n new : Node) → StillTo n new → TurnedTo w n new
still_turned w n new s = record {
  seats_are = λ range. kept (s.seats_are range);
  sent_are = λ p c. ⊎_elim (λ (old : Contains n.sent p). inl old) (λ (now : FromHistory n.seats p). inr (inl now)) (s.sent_are p c);
  outcomes_are = λ e c. ⊎_elim (λ (old : Contains n.outcomes e). inl old) (λ (now : NoSuccess e). inr (inl now)) (s.outcomes_are e c);
}

still_same : (n : Node) → StillTo n n
still_same n = record { seats_are = λ range. refl; sent_are = λ p c. inl c; outcomes_are = λ e c. inl c }

still_then : (n m k : Node) → StillTo n m → StillTo m k → StillTo n k
still_then n m k a b = record {
  seats_are = λ range. b.seats_are range ∙ a.seats_are range;
  sent_are = λ p c. ⊎_elim (λ (old : Contains m.sent p). a.sent_are p old)
      (λ (now : FromHistory m.seats p). inr (record { past = now.past; history = sym (a.seats_are p.range) ∙ now.history; up_to = now.up_to })) (b.sent_are p c);
  outcomes_are = λ e c. ⊎_elim (λ (old : Contains m.outcomes e). a.outcomes_are e old) (λ (now : NoSuccess e). inr now) (b.outcomes_are e c);
}

-- a message as Raft's laws say it
up_to : (bound : ℕ) (m : Message AppliedState) → SnapHas (UpTo bound) m → SnapUpTo bound m
up_to bound (Vote t i it) h = tt
up_to bound (VoteReply t granted) h = tt
up_to bound (Append t prev pt es commit) h = tt
up_to bound (AppendReply t said i) h = tt
up_to bound (Forward payload) h = tt
up_to bound (Snap t i it s) h = h

from_parcels : (at bound : ℕ) (ms : List (ℕ × Message AppliedState)) → SentUpTo bound ms → (p : Parcel AppliedState) → Contains (parcels at ms) p → (p.range ≡ at) × SnapUpTo bound p.message
from_parcels at bound ms h p c = go ms h c.0 c.1 c.2 where
  go : (ms : List (ℕ × Message AppliedState)) → SentUpTo bound ms → (k : ℕ) → k < length (parcels at ms) → slice_index_or (parcels at ms) k p ≡ p → (p.range ≡ at) × SnapUpTo bound p.message
  go [] h k lt e = absurd (omega (arith, lt))
  go (x ∷ ms) h zero lt e = subst (λ (z : Parcel AppliedState). (z.range ≡ at) × SnapUpTo bound z.message) e (refl, up_to bound x.1 h.0)
  go (x ∷ ms) h (suc k) lt e = go ms h.1 k (omega (arith, lt)) e

none_of : {A : Type 0} (x : A) → Contains {X = A} [] x → ⊥
none_of x c = omega (arith, c.1)

-- a turn of one seat, whose event applies nothing
module _ (n : Node) (at : ℕ) (r : Replica) (live : seat n at ≡ Live r) where
  new_parcels : (ms : List (ℕ × Message AppliedState)) → SentUpTo r.applied.index ms → (p : Parcel AppliedState) → Contains (n.sent ++ parcels at ms) p → Contains n.sent p ⊎ FromHistory n.seats p
  new_parcels ms h p c =
      ⊎_elim (λ (old : Contains n.sent p). inl old)
      (λ (now : Contains (parcels at ms) p).
      let is = from_parcels at r.applied.index ms h p now in
      inr (record { past = r.applied; history = ap (λ z. history_in (seat n z)) is.0 ∙ ap history_in live; up_to = is.1 }))
      (Contains-append_cases n.sent (parcels at ms) p c)

  new_ends : (P : Ended → Type 0) (es : List Ended) → Every P es → (e : Ended) → Contains (n.outcomes ++ es) e → Contains n.outcomes e ⊎ P e
  new_ends P es h e c =
      ⊎_elim (λ (old : Contains n.outcomes e). inl old) (λ (now : Contains es e). inr (All-contains P es e (All-from_recursion P es h) now))
      (Contains-append_cases n.outcomes es e c)

  -- the seat that changes, or another
  seats_after : (P : ℕ → Status → Type 0) (status : Status) → P at status → ((range : ℕ) → (at ≡ range → ⊥) → P range (seat n range)) → (range : ℕ) → P range (seat (with_seat n at status) range)
  seats_after P status here others range =
      ⊎_elim (λ (own : at ≡ range). subst (λ z. P z (seat (with_seat n at status) z)) own (subst (P at) (sym (seat_same n at status (live_within n at r live))) here))
      (λ (ne : at ≡ range → ⊥). subst (P range) (sym (seat_other n at range status ne)) (others range ne))
      (cases_eq at range)

  quiet_turn : (e : ReplicaEvent AppliedState) (d : Done) → Quiet r e d → StillTo n (after_replica n at e d)
  quiet_turn e d q = subst (λ z. StillTo n z) (sym (ap (opened (after_turn n at (status_after e d.replica) d)) q.right))
      (record {
        seats_are = seats_after (λ range status. history_in status ≡ history_in (seat n range)) (status_after e d.replica) (q.history ∙ sym (ap history_in live)) (λ range ne. refl);
        sent_are = new_parcels d.messages q.messages;
        outcomes_are = new_ends NoSuccess d.outcomes q.outcomes;
      })

quiet_status : (n : Node) (at : ℕ) (e : ReplicaEvent AppliedState) (taken : List Item) → ((r : Replica) (ticks round : ℕ) → Quiet r e (event r e ticks round taken))
    → (status : Status) → seat n at ≡ status → StillTo n (by_status n at e taken status).node
quiet_status n at e taken q Absent is = still_same n
quiet_status n at e taken q (Live r) is = quiet_turn n at r is e (event r e n.ticks n.rounds taken) (q r n.ticks n.rounds)
quiet_status n at e taken q (Removed applied) is = still_same n

quiet_live : (n : Node) (at : ℕ) (e : ReplicaEvent AppliedState) → ((r : Replica) (ticks round : ℕ) → Quiet r e (event r e ticks round []))
    → (status : Status) → seat n at ≡ status → StillTo n (live_turn e n at status)
quiet_live n at e q Absent is = still_same n
quiet_live n at e q (Live r) is = quiet_turn n at r is e (event r e n.ticks n.rounds []) (q r n.ticks n.rounds)
quiet_live n at e q (Removed applied) is = still_same n

quiet_all : (e : ReplicaEvent AppliedState) → ((r : Replica) (ticks round : ℕ) → Quiet r e (event r e ticks round [])) → (ranges : List ℕ) (n : Node) → StillTo n (all_turns e n ranges)
quiet_all e q [] n = still_same n
quiet_all e q (at ∷ more) n =
    still_then n (live_turn e n at (seat n at)) (all_turns e (live_turn e n at (seat n at)) more)
    (quiet_live n at e q (seat n at) refl)
    (quiet_all e q more (live_turn e n at (seat n at)))

-- a seat out of the list
module _ (n : Node) (at : ℕ) (status : Status) where
  seats_past : length n.seats ≤ at → slice_set n.seats at status ≡ n.seats
  seats_past past = set_past n.seats at status past

-- a message comes to a replica
module _ (w : World) (n : Node) (at from : ℕ) (m : Message AppliedState) (sent : WasSent w at m) where
  live_message : (r : Replica) → seat n at ≡ Live r → TurnedTo w n (after_replica n at (Deliver from m) (event r (Deliver from m) n.ticks n.rounds []))
  live_message r live =
      let d : Done = event r (Deliver from m) n.ticks n.rounds [] in
      let l : Delivered r m d = delivered_leaves r from m n.ticks n.rounds [] in
      subst (λ z. TurnedTo w n z) (sym (ap (opened (after_turn n at (Live d.replica) d)) l.right))
      (record {
        seats_are = λ range. ⊎_elim
            (λ (own : at ≡ range). subst (λ z. Became w n.seats (slice_set n.seats at (Live d.replica)) z) own (here d l))
            (λ (ne : at ≡ range → ⊥). kept (ap history_in (seat_other n at range (Live d.replica) ne)))
            (cases_eq at range);
        sent_are = λ p c. ⊎_elim (λ (old : Contains n.sent p). inl old) (λ (now : FromHistory n.seats p). inr (inl now)) (new_parcels n at r live d.messages l.messages p c);
        outcomes_are = λ e c. ⊎_elim (λ (old : Contains n.outcomes e). inl old) (λ (now : NoSuccess e). inr (inl now)) (new_ends n at r live NoSuccess d.outcomes l.outcomes e c);
      })
    where
      same : (d : Done) → seat (with_seat n at (Live d.replica)) at ≡ Live d.replica
      same d = seat_same n at (Live d.replica) (live_within n at r live)

      here : (d : Done) → Delivered r m d → Became w n.seats (slice_set n.seats at (Live d.replica)) at
      here d l = ⊎_elim
          (λ (e : d.replica.applied ≡ r.applied). kept (ap history_in (same d) ∙ ap Some e ∙ sym (ap history_in live)))
          (λ (t : TakenIn r m d.replica.applied).
          let b = takes_above_holds AppliedState r.raft t.from m t.index t.snapshot t.taken in
          jumps (record {
            before = r;
            replica = d.replica;
            was = live;
            is = same d;
            index = t.index;
            state = t.snapshot;
            history = t.is;
            sent = record { term = b.term; index_term = b.index_term; snapshot = t.snapshot; sent = subst (WasSent w at) b.is sent };
          }))
          l.history

  -- or to a node that has nothing of the range
  module _ (bare : seat n at ≡ Absent) where
    nothing_made : slice_set n.seats at Absent ≡ n.seats
    nothing_made = ap (slice_set n.seats at) (sym bare) ∙ set-get_or n.seats at Absent

    made_seats : (status : Status) → status ≡ Absent → (range : ℕ) → Became w n.seats (slice_set n.seats at status) range
    made_seats status e range = kept (ap (λ z. history_in (at_seat (slice_set n.seats at z) range)) e ∙ ap (λ z. history_in (at_seat z range)) nothing_made)

    snap_made : (term index index_term : ℕ) (snapshot : AppliedState) → m ≡ Snap term index index_term snapshot
        → (range : ℕ) → Became w n.seats (slice_set n.seats at (Live (made_by_snap n.node n.nodes term from index index_term snapshot))) range
    snap_made term index index_term snapshot is range =
        let r : Replica = made_by_snap n.node n.nodes term from index index_term snapshot in
        ⊎_elim
        (λ (within : at < length n.seats). ⊎_elim
        (λ (own : at ≡ range). subst (λ z. Became w n.seats (slice_set n.seats at (Live r)) z) own (begins (record {
          replica = r;
          was = bare;
          is = seat_same n at (Live r) within;
          index = index;
          state = snapshot;
          history = refl;
          source = inl (record { term = term; index_term = index_term; snapshot = snapshot; sent = subst (WasSent w at) is sent });
        })))
        (λ (ne : at ≡ range → ⊥). kept (ap history_in (seat_other n at range (Live r) ne)))
        (cases_eq at range))
        (λ (past : length n.seats ≤ at). kept (ap (λ z. history_in (at_seat z range)) (seats_past n at (Live r) past)))
        (cases_lt at (length n.seats))

    bare_seats : (x : Message AppliedState) → m ≡ x → (range : ℕ) → Became w n.seats (slice_set n.seats at (seat_by_message n from x)) range
    bare_seats (Vote t i it) e = made_seats Absent refl
    bare_seats (VoteReply t granted) e = made_seats Absent refl
    bare_seats (Append t prev pt es commit) e = made_seats Absent refl
    bare_seats (AppendReply t said i) e = made_seats Absent refl
    bare_seats (Forward payload) e = made_seats Absent refl
    bare_seats (Snap t i it s) e = snap_made t i it s e

    answer_none : (x : Message AppliedState) → SentUpTo 0 (absent_answer from x)
    answer_none (Vote t i it) = tt
    answer_none (VoteReply t granted) = tt
    answer_none (Append t prev pt es commit) = (tt, tt)
    answer_none (AppendReply t said i) = tt
    answer_none (Forward payload) = tt
    answer_none (Snap t i it s) = (tt, tt)

    bare_message : TurnedTo w n (delivered n from at m Absent)
    bare_message = record {
      seats_are = bare_seats m refl;
      sent_are = λ p c. ⊎_elim (λ (old : Contains n.sent p). inl old)
          (λ (now : Contains (parcels at (absent_answer from m)) p).
          let is = from_parcels at 0 (absent_answer from m) (answer_none m) p now in
          inr (inr (record { message = m; sent = subst (λ z. WasSent w z m) (sym is.0) sent; up_to = is.1 })))
          (Contains-append_cases n.sent (parcels at (absent_answer from m)) p c);
      outcomes_are = λ e c. inl c;
    }

  message_turned : (status : Status) → seat n at ≡ status → TurnedTo w n (delivered n from at m status)
  message_turned Absent is = bare_message is
  message_turned (Live r) is = live_message r is
  message_turned (Removed applied) is = still_turned w n n (still_same n)

-- the next entry is applied
module _ (w : World) (n : Node) (at : ℕ) (r : Replica) (p : Payload) (live : seat n at ≡ Live r) (carries : payload_of (next_entry r) ≡ Some p) where
  abbrev d : Done
  d = applied_one r p

  l : AppliedOne r p (applied_one r p)
  l = applied_leaves r p

  abbrev n1 : Node
  n1 = after_turn n at (Live d.replica) d

  own_seat : seat n1 at ≡ Live d.replica
  own_seat = seat_same n at (Live d.replica) (live_within n at r live)

  other_seat : (range : ℕ) → (at ≡ range → ⊥) → seat n1 range ≡ seat n range
  other_seat range ne = seat_other n at range (Live d.replica) ne

  applied_here : (seats : List Status) → at_seat seats at ≡ Live d.replica → AppliedAt n.seats seats at r p
  applied_here seats is = record { live = live; carries = carries; history = ap history_in is ∙ ap Some l.history }

  finish : (new : Node) → seat new at ≡ Live d.replica → ((range : ℕ) → (at ≡ range → ⊥) → Became w n.seats new.seats range) → new.sent ≡ n1.sent → new.outcomes ≡ n1.outcomes → TurnedTo w n new
  finish new is others sent outcomes = record {
    seats_are = λ range. ⊎_elim (λ (own : at ≡ range). subst (λ z. Became w n.seats new.seats z) own (goes r p (applied_here new.seats is))) (others range) (cases_eq at range);
    sent_are = λ q c. ⊎_elim (λ (old : Contains n.sent q). inl old) (λ (now : FromHistory n.seats q). inr (inl now))
        (new_parcels n at r live d.messages (subst (SentUpTo r.applied.index) (sym l.messages) tt) q (subst (λ xs. Contains xs q) sent c));
    outcomes_are = λ e c. ⊎_elim (λ (old : Contains n.outcomes e). inl old)
        (λ (now : NoSuccess e ⊎ SucceedsAt r p e). inr (⊎_elim (λ (no : NoSuccess e). inl no)
        (λ (s : SucceedsAt r p e). inr (record { at = at; replica = r; payload = p; applied = applied_here new.seats is; succeeds = s })) now))
        (new_ends n at r live (λ e. NoSuccess e ⊎ SucceedsAt r p e) d.outcomes l.outcomes e (subst (λ xs. Contains xs e) outcomes c));
  }

  still_others : (range : ℕ) → (at ≡ range → ⊥) → Became w n.seats n1.seats range
  still_others range ne = kept (ap history_in (other_seat range ne))

  module _ (s : AppliedState) (opens : right_of r.applied.state p ≡ Some s) where
    abbrev right : Replica
    right = started n.node n.nodes s.lease.holder right_base right_base_term s

    by_seat : (status : Status) → seat n1 s.desc.id ≡ status → TurnedTo w n (opened_by n1 s status)
    by_seat Absent is =
        ⊎_elim
        (λ (within : s.desc.id < length n1.seats).
        finish (with_seat n1 s.desc.id (Live right)) at_own (λ range ne. ⊎_elim
        (λ (own : s.desc.id ≡ range). subst (λ z. Became w n.seats (slice_set n1.seats s.desc.id (Live right)) z) own (begins (record {
          replica = right;
          was = sym (other_seat s.desc.id apart) ∙ is;
          is = seat_same n1 s.desc.id (Live right) within;
          index = right_base;
          state = s;
          history = refl;
          source = inr (refl, record { at = at; replica = r; payload = p; applied = applied_here (slice_set n1.seats s.desc.id (Live right)) at_own; right = s; opens = opens; numbered = refl });
        })))
        (λ (far : s.desc.id ≡ range → ⊥). kept (ap history_in (seat_other n1 s.desc.id range (Live right) far ∙ other_seat range ne)))
        (cases_eq s.desc.id range)) refl refl)
        (λ (past : length n1.seats ≤ s.desc.id).
        let same : slice_set n1.seats s.desc.id (Live right) ≡ n1.seats = seats_past n1 s.desc.id (Live right) past in
        finish (with_seat n1 s.desc.id (Live right)) at_own (λ range ne. kept (ap (λ z. history_in (at_seat z range)) same ∙ ap history_in (other_seat range ne))) refl refl)
        (cases_lt s.desc.id (length n1.seats))
      where
        absent_live : (z : Replica) → ◌≡◌ {A = Status} Absent (Live z) → ⊥
        absent_live z e = cc

        apart : at ≡ s.desc.id → ⊥
        apart e = absent_live d.replica (sym is ∙ ap (seat n1) (sym e) ∙ own_seat)

        at_own : seat (with_seat n1 s.desc.id (Live right)) at ≡ Live d.replica
        at_own = seat_other n1 s.desc.id at (Live right) (λ e. apart (sym e)) ∙ own_seat
    by_seat (Live z) is = finish n1 own_seat still_others refl refl
    by_seat (Removed applied) is = finish n1 own_seat still_others refl refl

  applied_turned : TurnedTo w n (after_replica n at Apply d)
  applied_turned = by_right (right_of r.applied.state p) refl where
    by_right : (o : Option AppliedState) → right_of r.applied.state p ≡ o → TurnedTo w n (opened n1 o)
    by_right None is = finish n1 own_seat still_others refl refl
    by_right (Some s) is = by_seat s is (seat n1 s.desc.id) refl

apply_turned : (w : World) (n : Node) (at : ℕ) (status : Status) → seat n at ≡ status → TurnedTo w n (by_status n at Apply [] status).node
apply_turned w n at Absent is = still_turned w n n (still_same n)
apply_turned w n at (Live r) is = by_payload (payload_of (next_entry r)) refl where
  nothing : Quiet r Apply (leaves r answers.Nothing)
  nothing = record { history = refl; right = refl; messages = tt; outcomes = tt }

  by_payload : (o : Option Payload) → payload_of (next_entry r) ≡ o → TurnedTo w n (after_replica n at Apply (applied_where r o))
  by_payload None e = still_turned w n (after_replica n at Apply (leaves r answers.Nothing)) (quiet_turn n at r is Apply (leaves r answers.Nothing) nothing)
  by_payload (Some p) e = applied_turned w n at r p is e
apply_turned w n at (Removed applied) is = still_turned w n n (still_same n)

-- what an event brings was sent
abbrev pub Brings : World → Event AppliedState → Type 0
Brings w (events.Deliver from at number m) = WasSent w at m
Brings w _ = Unit {0}

abbrev TurnsIn : World → Node → Event AppliedState → List Item → Type 0
TurnsIn w n e taken = TurnedTo w n (step n e taken).node

-- an event of a node
pub node_turned : (w : World) (n : Node) (e : Event AppliedState) (taken : List Item) → Brings w e → TurnsIn w n e taken
node_turned w n (events.Admit at id request) taken b =
    still_turned w n (step n (events.Admit at id request) taken).node (quiet_status (with_request n request) at (Admit id request) [] (λ r ticks round. admit_quiet r ticks round id request []) (seat n at) refl)
node_turned w n (events.Ask at) taken b = still_turned w n (step n (events.Ask at) taken).node (quiet_status n at Ask [] (λ r ticks round. ask_quiet r ticks round []) (seat n at) refl)
node_turned w n (events.Transfer at to) taken b =
    still_turned w n (step n (events.Transfer at to) taken).node (quiet_status n at (Transfer to) [] (λ r ticks round. transfer_quiet r ticks round to []) (seat n at) refl)
node_turned w n (events.Collect at) taken b =
    still_turned w n (step n (events.Collect at) taken).node (quiet_status n at Collect taken (λ r ticks round. collect_quiet r ticks round taken) (seat n at) refl)
node_turned w n (events.Flush at) taken b = still_turned w n (step n (events.Flush at) taken).node (quiet_status n at Flush [] (λ r ticks round. flush_quiet r ticks round []) (seat n at) refl)
node_turned w n events.Tick taken b =
    still_turned w n (step n events.Tick taken).node (quiet_all Tick (λ r ticks round. tick_quiet r ticks round []) range_numbers (record n { ticks = n.ticks + 1 }))
node_turned w n (events.Deliver from at number m) taken b = message_turned w n at from m b (seat n at) refl
node_turned w n (events.Apply at) taken b = apply_turned w n at (seat n at) refl
node_turned w n (events.Cut at) taken b = still_turned w n (step n (events.Cut at) taken).node (quiet_status n at Cut [] (λ r ticks round. cut_quiet r ticks round []) (seat n at) refl)
node_turned w n (events.Remove at) taken b = still_turned w n (step n (events.Remove at) taken).node (quiet_status n at Remove [] (λ r ticks round. remove_quiet r ticks round []) (seat n at) refl)
node_turned w n (events.Peek at key) taken b =
    still_turned w n (step n (events.Peek at key) taken).node (quiet_status n at (Peek key) [] (λ r ticks round. peek_quiet r ticks round key []) (seat n at) refl)
node_turned w n events.Restart taken b = still_turned w n (step n events.Restart taken).node (quiet_all Restart (λ r ticks round. restart_quiet r ticks round []) range_numbers n)
node_turned w n events.Round taken b = still_turned w n (step n events.Round taken).node (still_same n)

-- Each pending proposal is one that its node admitted in its range.
use Rattle.std.proofs.Common.{◌≡◌, ℕ, zero, suc, ◌+◌, ◌<◌, Bool, true, false, cond, ⊎_elim, Option, None, Some, Result, Ok, Err, List, [], ◌∷◌, ◌++◌, length, map, max, set, refl, sym, ap, subst, ◌∙◌, arith}
use Rattle.std.specs.Prelude.{slice_get, slice_index_or, not}
use Rattle.std.specs.List.{filter, find, AllByRecursion}
use Rattle.std.specs.Option.{option_map_or}
use Rattle.std.proofs.lemmas.Bool.{cond_both}
use Rattle.rp_base.specs.declared.ids.CmdId.{CmdId}
use Rattle.rp_base.specs.declared.items.Item.{Item}
use Rattle.rp_raftstep.specs.declared.messages.Message.{Message}
use Rattle.rp_raftstep.specs.declared.messages.Message.TheVariants.{Vote, VoteReply, Append, AppendReply, Forward, Snap}
use Rattle.rp_raftstep.specs.Step.{tick, received}
use Rattle.rp_request.specs.Applied.{AppliedState, command_verdict}
use Rattle.rp_request.specs.declared.commands.Command.{Command}
use Rattle.rp_request.specs.declared.commands.Payload.{Payload}
use Rattle.rp_request.specs.declared.commands.Payload.TheVariants as payloads
use Rattle.rp_request.specs.declared.evaluations.Evaluated.{Evaluated}
use Rattle.rp_request.specs.declared.outcomes.Refusal.{Refusal}
use Rattle.rp_request.specs.declared.outcomes.Refusal.TheVariants.{NotLeaseHolder}
use Rattle.rp_request.specs.declared.requests.Request.{Request}
use Rattle.rp_request.specs.declared.verdicts.Verdict.{Verdict}
use Rattle.rp_request.specs.declared.verdicts.Verdict.TheVariants as verdicts
use Rattle.rp_flush.specs.Assigns.{numbered}
use Rattle.rp_pending.specs.Proposals.{has_id, proposal_of, with_changed, proposed, waiting_again, is_proposed}
use Rattle.rp_pending.specs.Refreshes.{goes_back}
use Rattle.rp_pending.specs.declared.proposals.Proposal.{Proposal}
use Rattle.rp_pending.specs.declared.refreshes.Refresh.{Refresh}
use Rattle.rp_events.specs.declared.answers.EventAnswer.{EventAnswer}
use Rattle.rp_events.specs.declared.answers.EventAnswer.TheVariants as answers
use Rattle.rp_events.specs.declared.journals.JournalEntry.{JournalEntry}
use Rattle.rp_events.specs.declared.journals.PastEvent.TheVariants as past
use Rattle.rp_events.specs.declared.node_events.Event.{Event}
use Rattle.rp_events.specs.declared.node_events.Event.TheVariants as events
use Rattle.rp_events.specs.declared.replica_events.ReplicaEvent.{ReplicaEvent}
use Rattle.rp_events.specs.declared.replica_events.ReplicaEvent.TheVariants.{Admit, Ask, Transfer, Collect, Flush, Tick, Deliver, Apply, Cut, Remove, Peek, Restart}
use Rattle.rp_events.specs.Replicas.{Replica, Done, Told, leaves, untold, lease_of, holds_lease, has_new_leader, started}
use Rattle.rp_events.specs.Admissions.{guarded, admitted_by, proposal}
use Rattle.rp_events.specs.Applications.{is_own, settled, proposer_told, payload_of, next_entry, applied_where}
use Rattle.rp_events.specs.Flushes.{assigning, flush_moves, emptied}
use Rattle.rp_events.specs.LeaseAsks.{lease_ticks, is_held, expiry_of, ask_for, answers_ask}
use Rattle.rp_events.specs.declared.moves.Move.{Move}
use Rattle.rp_events.specs.declared.moves.Move.TheVariants.{HandsOut, GivesUp, TakesBack, Repeats}
use Rattle.rp_events.specs.Moves.{hands_out, gives_up, takes_back, repeats, moved, moved_all}
use Rattle.rp_events.specs.Refreshes.{refreshing, refresh_moves, with_taken}
use Rattle.rp_events.specs.ReplicaEvents.{event}
use Rattle.rp_events.specs.Nodes.{Node, Status, Absent, Live, Removed, seat, opened, opened_by, after_turn, first_node, range_numbers, right_base, right_base_term}
use Rattle.rp_events.specs.NodeEvents.{status_after, after_replica, by_status, live_turn, all_turns, delivered, seat_by_message, acted, step, with_request}
use Rattle.rp_events.specs.Worlds.{World, Scene, Schedule, first_world, taken_in, happens, run}
use Rattle.rp_events.specs.Lawful.{IsReached}
use Rattle.rp_journals.specs.Growth.{Grows}
use Rattle.rp_journals.specs.Ended.{pending_at, IsFrom, AllFrom}
use Rattle.rp_journals.proofs.Lists.{get_begins, get_end, all_push, all_weaker}
use Rattle.rp_journals.proofs.Growing.{Happened, happened, step_grows}
use Rattle.rp_journals.proofs.Reading.{entry_of, step_journal, node_after, first_at}
use Rattle.rp_journals.proofs.Admitting.{asked_here}
use Rattle.rp_journals.proofs.Counting.{joined_all_same}

pub all_filter : {X : Type 0} (P : X → Type 0) (test : X → Bool) (xs : List X) → AllByRecursion P xs → AllByRecursion P (filter test xs)
all_filter P test [] h = tt
all_filter P test (x ∷ xs) h = cond_both (test x) (x ∷ filter test xs) (filter test xs) (λ l. AllByRecursion P l) (λ _. (h.0, all_filter P test xs h.1)) (λ _. all_filter P test xs h.1)

pub all_found : {X : Type 0} (P : X → Type 0) (test : X → Bool) (xs : List X) (x : X) → AllByRecursion P xs → find test xs ≡ Some x → P x
all_found P test [] x h e = absurd cc
all_found {X} P test (z ∷ xs) x h e = go (all_found P test xs x h.1) (test z) e where
  some_is : (a b : X) → ◌≡◌ {A = Option X} (Some a) (Some b) → a ≡ b
  some_is a b e' = cc

  go : (find test xs ≡ Some x → P x) → (b : Bool) → cond b (Some z) (find test xs) ≡ Some x → P x
  go ih true e' = subst P (some_is z x e') h.0
  go ih false e' = ih e'

-- a hand-out gives a lease index above 0
abbrev IsAbove : Move → Type 0
IsAbove (HandsOut id max) = 0 < max
IsAbove (GivesUp id) = Unit {0}
IsAbove (TakesBack id) = Unit {0}
IsAbove (Repeats id) = Unit {0}

abbrev AllAbove : List Move → Type 0
AllAbove moves = AllByRecursion IsAbove moves

above_both : (xs ys : List Move) → AllAbove xs → AllAbove ys → AllAbove (xs ++ ys)
above_both [] ys h k = k
above_both (x ∷ xs) ys h k = (h.0, above_both xs ys h.1 k)

above_up : (ids : List CmdId) → AllAbove (map GivesUp ids)
above_up [] = tt
above_up (id ∷ ids) = (tt, above_up ids)

above_back : (ids : List CmdId) → AllAbove (map TakesBack ids)
above_back [] = tt
above_back (id ∷ ids) = (tt, above_back ids)

above_again : (ids : List CmdId) → AllAbove (map Repeats ids)
above_again [] = tt
above_again (id ∷ ids) = (tt, above_again ids)

above_numbered : (last : ℕ) (ids : List CmdId) → AllAbove (map (λ (write : CmdId × ℕ). HandsOut write.0 write.1) (numbered last ids))
above_numbered last [] = tt
above_numbered last (id ∷ ids) = (omega arith, above_numbered (last + 1) ids)

pub flush_above : (r : Replica) → AllAbove (flush_moves (assigning r))
flush_above r = above_both (map GivesUp (assigning r).refused) _ (above_up (assigning r).refused) (above_numbered (max r.assigned r.applied.state.lai) _)

refresh_above : (f : Refresh) → AllAbove (refresh_moves f)
refresh_above f = above_both (map TakesBack f.back) (map Repeats f.again) (above_back f.back) (above_again f.again)

-- a new proposal
abbrev pub AddsOf : (Proposal → Type 0) → Replica → ReplicaEvent AppliedState → Type 0
AddsOf P r (Admit id request) = (e : Evaluated) → guarded r request ≡ Ok e → P (proposal id request e (lease_of r).seq)
AddsOf P r _ = Unit {0}

-- what the moves of proposals, and the other events of a replica, leave of each
module _ (P : Proposal → Type 0) (waits : (p : Proposal) → P p → P (waiting_again p)) (gives : (p : Proposal) (max ticks round : ℕ) → 0 < max → P p → P (proposed max ticks round p))
    (positive : (p : Proposal) → P p → is_proposed p.stage ≡ true → 0 < p.max) where
  abbrev AllP : List Proposal → Type 0
  AllP ps = AllByRecursion P ps

  all_changed : (id : CmdId) (f : Proposal → Proposal) → ((p : Proposal) → P p → P (f p)) → (ps : List Proposal) → AllP ps → AllP (with_changed id f ps)
  all_changed id f keeps [] h = tt
  all_changed id f keeps (p ∷ ps) h = (cond_both (has_id id p) (f p) p P (λ _. keeps p h.0) (λ _. h.0), all_changed id f keeps ps h.1)

  all_moved : (ticks round : ℕ) (t : Told) (move : Move) → IsAbove move → AllP t.replica.pending → AllP (moved ticks round t move).replica.pending
  all_moved ticks round t (HandsOut id max) above h = go (proposal_of id t.replica.pending) where
    go : (o : Option Proposal) → AllP (option_map_or (hands_out ticks round t id max) o t).replica.pending
    go None = h
    go (Some p) = cond_both (is_proposed p.stage) t _ (λ (z : Told). AllP z.replica.pending) (λ _. h) (λ _. all_changed id (proposed max ticks round) (λ x. gives x max ticks round above) t.replica.pending h)
  all_moved ticks round t (GivesUp id) above h = go (proposal_of id t.replica.pending) where
    go : (o : Option Proposal) → AllP (option_map_or (gives_up t id) o t).replica.pending
    go None = h
    go (Some p) = cond_both (is_proposed p.stage) t _ (λ (z : Told). AllP z.replica.pending) (λ _. h) (λ _. all_filter P (λ x. not (has_id id x)) t.replica.pending h)
  all_moved ticks round t (TakesBack id) above h = go (proposal_of id t.replica.pending) where
    go : (o : Option Proposal) → AllP (option_map_or (takes_back t id) o t).replica.pending
    go None = h
    go (Some p) = cond_both (goes_back t.replica.applied.state.lai p) _ t (λ (z : Told). AllP z.replica.pending) (λ _. all_changed id waiting_again waits t.replica.pending h) (λ _. h)
  all_moved ticks round t (Repeats id) above h = go (proposal_of id t.replica.pending) refl where
    go : (o : Option Proposal) → proposal_of id t.replica.pending ≡ o → AllP (option_map_or (repeats ticks round t id) o t).replica.pending
    go None found = h
    go (Some p) found = cond_both (is_proposed p.stage) _ t (λ (z : Told). AllP z.replica.pending)
        (λ is. all_changed id (proposed p.max ticks round) (λ x. gives x p.max ticks round (positive p (all_found P (has_id id) t.replica.pending p h found) is)) t.replica.pending h) (λ _. h)

  all_moves : (ticks round : ℕ) (t : Told) (moves : List Move) → AllAbove moves → AllP t.replica.pending → AllP (moved_all ticks round t moves).replica.pending
  all_moves ticks round t [] above h = h
  all_moves ticks round t (move ∷ moves) above h = all_moves ticks round (moved ticks round t move) moves above.1 (all_moved ticks round t move above.0 h)

  module _ (r : Replica) (all : AllP r.pending) where
    all_settled : (c : Command) (v : Verdict) → AllP (settled r c v).replica.pending
    all_settled c verdicts.Took = all_filter P (λ x. not (has_id c.id x)) r.pending all
    all_settled c (verdicts.OldLease now) = all_filter P (λ x. not (has_id c.id x)) r.pending all
    all_settled c (verdicts.OldIndex lai) = all_changed c.id waiting_again waits r.pending all
    all_settled c verdicts.LeaseMoved = all
    all_settled c verdicts.Nothing = all

    all_proposer : (p : Payload) → AllP (proposer_told r p).replica.pending
    all_proposer payloads.Nothing = all
    all_proposer (payloads.Write c) = cond_both (is_own r c) (settled r c (command_verdict r.applied.state c)) (untold r) (λ (z : Told). AllP z.replica.pending)
        (λ _. all_settled c (command_verdict r.applied.state c)) (λ _. all)
    all_proposer (payloads.Lease ask) = all

    all_applied : (o : Option Payload) → AllP (applied_where r o).replica.pending
    all_applied None = all
    all_applied (Some p) = all_proposer p

    all_taken : (o : Option (ℕ × AppliedState)) → AllP (with_taken r o).replica.pending
    all_taken None = all
    all_taken (Some taken) = all_filter P _ r.pending all

    all_admitted : (id : CmdId) (request : Request) → AddsOf P r (Admit id request) → (g : Result Evaluated Refusal) → guarded r request ≡ g → AllP (admitted_by r id request g).replica.pending
    all_admitted id request new (Ok e) is = all_push P r.pending (proposal id request e (lease_of r).seq) all (new e is)
    all_admitted id request new (Err why) is = all

    pub all_event : (e : ReplicaEvent AppliedState) → AddsOf P r e → (ticks round : ℕ) (taken : List Item) → AllP (pending_at (status_after e (event r e ticks round taken).replica))
    all_event (Admit id request) new ticks round taken = all_admitted id request new (guarded r request) refl
    all_event Ask new ticks round taken =
        cond_both (is_held r ticks) (leaves r (answers.LeaseHeld (lease_of r) ticks)) (answers_ask r (ask_for r r.raft.head.node (expiry_of r ticks))) (λ (z : Done). AllP z.replica.pending) (λ _. all) (λ _. all)
    all_event (Transfer to) new ticks round taken =
        cond_both (holds_lease r) (answers_ask r (ask_for r to (ticks + lease_ticks))) (leaves r (answers.Refused (NotLeaseHolder (lease_of r)))) (λ (z : Done). AllP z.replica.pending) (λ _. all) (λ _. all)
    all_event Collect new ticks round taken = subst AllP (sym (joined_all_same r taken)) all
    all_event Flush new ticks round taken = all_moves ticks round (untold (emptied r (assigning r))) (flush_moves (assigning r)) (flush_above r) all
    all_event Tick new ticks round taken =
        let draft = tick r.raft in
        let f = refreshing r ticks (has_new_leader r.raft.head draft.state.head) in
        all_moves ticks round (untold r) (refresh_moves f) (refresh_above f) all
    all_event (Deliver from m) new ticks round taken =
        let draft = received r.raft from m in
        let t = with_taken r draft.taken in
        let f = refreshing t.replica ticks true in
        cond_both (has_new_leader r.raft.head draft.state.head) _ _ (λ (z : Done). AllP z.replica.pending)
        (λ _. all_moves ticks round t (refresh_moves f) (refresh_above f) (all_taken draft.taken)) (λ _. all_taken draft.taken)
    all_event Apply new ticks round taken = all_applied (payload_of (next_entry r))
    all_event Cut new ticks round taken = all
    all_event Remove new ticks round taken = tt
    all_event (Peek key) new ticks round taken = all
    all_event Restart new ticks round taken = tt

-- what holds of each seat, once one was written
pub seats_set : (Q : ℕ → Status → Type 0) (seats : List Status) (range : ℕ) (new : Status) → Q range new → ((k : ℕ) → Q k (slice_index_or seats k Absent))
    → (k : ℕ) → Q k (slice_index_or (set seats range new) k Absent)
seats_set Q [] range new h all k = all k
seats_set Q (s ∷ seats) zero new h all zero = h
seats_set Q (s ∷ seats) zero new h all (suc k) = all (suc k)
seats_set Q (s ∷ seats) (suc range) new h all zero = all 0
seats_set Q (s ∷ seats) (suc range) new h all (suc k) = seats_set (λ i. Q (suc i)) seats range new h (λ i. all (suc i)) k

from_waiting : (j : Node) (range : ℕ) (p : Proposal) → IsFrom j range p → IsFrom j range (waiting_again p)
from_waiting j range p h = record { place = h.place; at = h.at; here = h.here; asked = h.asked; given = λ e. absurd (waiting_no e) }
  where
    waiting_no : is_proposed (waiting_again p).stage ≡ true → ⊥
    waiting_no e = cc

from_proposed : (j : Node) (range : ℕ) (p : Proposal) (max ticks round : ℕ) → 0 < max → IsFrom j range p → IsFrom j range (proposed max ticks round p)
from_proposed j range p max ticks round above h = record { place = h.place; at = h.at; here = h.here; asked = h.asked; given = λ e. above }

pub from_later : (n later : Node) → Grows n later → (range : ℕ) (p : Proposal) → IsFrom n range p → IsFrom later range p
from_later n later g range p h = record {
  place = h.place;
  at = h.at;
  here = get_begins n.journal later.journal g.journal h.place _ h.here;
  asked = get_begins n.requests later.requests g.requests h.at p.request h.asked;
  given = h.given;
}

module _ (j : Node) where
  abbrev AllSeats : Node → Type 0
  AllSeats n = (range : ℕ) → AllByRecursion (IsFrom j range) (pending_at (seat n range))

  abbrev SeatQ : ℕ → Status → Type 0
  SeatQ range status = AllByRecursion (IsFrom j range) (pending_at status)

  seats_opened : (n : Node) (o : Option AppliedState) → AllSeats n → AllSeats (opened n o)
  seats_opened n None all = all
  seats_opened n (Some s) all = go (seat n s.desc.id) where
    go : (status : Status) → AllSeats (opened_by n s status)
    go Absent = seats_set SeatQ n.seats s.desc.id (Live (started n.node n.nodes s.lease.holder right_base right_base_term s)) tt all
    go (Live r) = all
    go (Removed applied) = all

  seats_replica : (n : Node) (range : ℕ) (r : Replica) (e : ReplicaEvent AppliedState) (taken : List Item) → seat n range ≡ Live r
      → AllSeats n → AddsOf (IsFrom j range) r e → AllSeats (after_replica n range e (event r e n.ticks n.rounds taken))
  seats_replica n range r e taken live all new =
      let d : Done = event r e n.ticks n.rounds taken in
      let here : AllByRecursion (IsFrom j range) r.pending = subst (λ s. AllByRecursion (IsFrom j range) (pending_at s)) live (all range) in
      seats_opened (after_turn n range (status_after e d.replica) d) d.right
      (seats_set SeatQ n.seats range (status_after e d.replica)
      (all_event (IsFrom j range) (from_waiting j range) (from_proposed j range) (λ p h. h.given) r here e new n.ticks n.rounds taken) all)

  seats_status : (n : Node) (range : ℕ) (e : ReplicaEvent AppliedState) (taken : List Item) → ((r : Replica) → AddsOf (IsFrom j range) r e) → AllSeats n → (status : Status) → seat n range ≡ status
      → AllSeats (by_status n range e taken status).node
  seats_status n range e taken new all Absent is = all
  seats_status n range e taken new all (Live r) is = seats_replica n range r e taken is all (new r)
  seats_status n range e taken new all (Removed applied) is = all

  seats_live : (n : Node) (range : ℕ) (e : ReplicaEvent AppliedState) → ((k : ℕ) (r : Replica) → AddsOf (IsFrom j k) r e) → AllSeats n → (status : Status) → seat n range ≡ status
      → AllSeats (live_turn e n range status)
  seats_live n range e new all Absent is = all
  seats_live n range e new all (Live r) is = seats_replica n range r e [] is all (new range r)
  seats_live n range e new all (Removed applied) is = all

  seats_all : (e : ReplicaEvent AppliedState) → ((k : ℕ) (r : Replica) → AddsOf (IsFrom j k) r e) → (ranges : List ℕ) (n : Node) → AllSeats n → AllSeats (all_turns e n ranges)
  seats_all e new [] n all = all
  seats_all e new (range ∷ ranges) n all = seats_all e new ranges (live_turn e n range (seat n range)) (seats_live n range e new all (seat n range) refl)

  made_none : (n : Node) (from range : ℕ) (m : Message AppliedState) → SeatQ range (seat_by_message n from m)
  made_none n from range (Vote term last_index last_term) = tt
  made_none n from range (VoteReply term granted) = tt
  made_none n from range (Append term prev_index prev_term entries commit) = tt
  made_none n from range (AppendReply term ok index) = tt
  made_none n from range (Forward payload) = tt
  made_none n from range (Snap term index index_term snapshot) = tt

  seats_message : (n : Node) (from range : ℕ) (m : Message AppliedState) → AllSeats n → (status : Status) → seat n range ≡ status → AllSeats (delivered n from range m status)
  seats_message n from range m all Absent is = seats_set SeatQ n.seats range (seat_by_message n from m) (made_none n from range m) all
  seats_message n from range m all (Live r) is = seats_replica n range r (Deliver from m) [] is all tt
  seats_message n from range m all (Removed applied) is = all

  -- what a new proposal is to be
  abbrev Admits : Node → Event AppliedState → Type 0
  Admits n (events.Admit range id request) = (r : Replica) → seat n range ≡ Live r → AddsOf (IsFrom j range) r (Admit id request)
  Admits n _ = Unit {0}

  seats_acted : (n : Node) (e : Event AppliedState) (taken : List Item) → Admits n e → AllSeats n → AllSeats (acted n e taken).node
  seats_acted n (events.Admit range id request) taken new all = by_seat (seat n range) refl where
    by_seat : (status : Status) → seat n range ≡ status → AllSeats (by_status (with_request n request) range (Admit id request) [] status).node
    by_seat Absent is = all
    by_seat (Live r) is = seats_replica (with_request n request) range r (Admit id request) [] is all (new r is)
    by_seat (Removed applied) is = all
  seats_acted n (events.Ask range) taken new all = seats_status n range Ask [] (λ r. tt) all (seat n range) refl
  seats_acted n (events.Transfer range to) taken new all = seats_status n range (Transfer to) [] (λ r. tt) all (seat n range) refl
  seats_acted n (events.Collect range) taken new all = seats_status n range Collect taken (λ r. tt) all (seat n range) refl
  seats_acted n (events.Flush range) taken new all = seats_status n range Flush [] (λ r. tt) all (seat n range) refl
  seats_acted n events.Tick taken new all = seats_all Tick (λ k r. tt) range_numbers (record n { ticks = n.ticks + 1 }) all
  seats_acted n (events.Deliver from range number m) taken new all = seats_message n from range m all (seat n range) refl
  seats_acted n (events.Apply range) taken new all = seats_status n range Apply [] (λ r. tt) all (seat n range) refl
  seats_acted n (events.Cut range) taken new all = seats_status n range Cut [] (λ r. tt) all (seat n range) refl
  seats_acted n (events.Remove range) taken new all = seats_status n range Remove [] (λ r. tt) all (seat n range) refl
  seats_acted n (events.Peek range key) taken new all = seats_status n range (Peek key) [] (λ r. tt) all (seat n range) refl
  seats_acted n events.Restart taken new all = seats_all Restart (λ k r. tt) range_numbers n all
  seats_acted n events.Round taken new all = all

-- a granted admission is written, with its request
admit_from : (n : Node) (range : ℕ) (id : CmdId) (request : Request) (taken : List Item) (r : Replica) → seat n range ≡ Live r
    → AddsOf (IsFrom (step n (events.Admit range id request) taken).node range) r (Admit id request)
admit_from n range id request taken r live e passed = record {
  place = length n.journal;
  at = length n.requests;
  here = ap (λ l. slice_get l (length n.journal)) (step_journal n (events.Admit range id request) taken)
      ∙ get_end n.journal (entry_of n (events.Admit range id request) taken) []
      ∙ ap (λ a. Some (entry_with a)) granted;
  asked = asked_here n range id request taken;
  given = λ is. absurd (waiting_no is);
} where
  entry_with : EventAnswer → JournalEntry
  entry_with a = record { event = past.Admit range id (length n.requests); answer = a }

  waiting_no : is_proposed (proposal id request e (lease_of r).seq).stage ≡ true → ⊥
  waiting_no is = cc

  granted : (step n (events.Admit range id request) taken).answer ≡ answers.Admitted
  granted = ap (λ s. (by_status (with_request n request) range (Admit id request) [] s).answer) live
      ∙ ap (λ g. (admitted_by r id request g).answer) passed

admits_from : (n : Node) (e : Event AppliedState) (taken : List Item) → Admits (step n e taken).node n e
admits_from n (events.Admit range id request) taken = λ r live. admit_from n range id request taken r live
admits_from n (events.Ask range) taken = tt
admits_from n (events.Transfer range to) taken = tt
admits_from n (events.Collect range) taken = tt
admits_from n (events.Flush range) taken = tt
admits_from n events.Tick taken = tt
admits_from n (events.Deliver from range number m) taken = tt
admits_from n (events.Apply range) taken = tt
admits_from n (events.Cut range) taken = tt
admits_from n (events.Remove range) taken = tt
admits_from n (events.Peek range key) taken = tt
admits_from n events.Restart taken = tt
admits_from n events.Round taken = tt

abbrev FromAt : ℕ → Node → Type 0
FromAt node n = (range : ℕ) → AllByRecursion (IsFrom n range) (pending_at (seat n range))

from_step : (n : Node) (e : Event AppliedState) (taken : List Item) → FromAt n.node n → FromAt n.node (step n e taken).node
from_step n e taken all =
    let new : Node = (step n e taken).node in
    let grown : Grows n new = step_grows n e taken in
    seats_acted new n e taken (admits_from n e taken)
    (λ range. all_weaker (IsFrom n range) (IsFrom new range) (λ p h. from_later n new grown range p h) (pending_at (seat n range)) (all range))

from_scene : (w : World) (x : Scene) → AllFrom w → AllFrom (happens w x)
from_scene w x all = ⊎_elim
    (λ (same : happens w x ≡ w). subst AllFrom (sym same) all)
    (λ (k : Happened w x). subst AllFrom (sym k.is)
    (node_after FromAt w x.node k.n (step k.n k.event (taken_in x.what)).node k.has
    (from_step k.n k.event (taken_in x.what) (all x.node k.n k.has)) (λ other m ne is. all other m is)))
    (happened w x)

from_run : (xs : Schedule) (w : World) → AllFrom w → AllFrom (run w xs)
from_run [] w all = all
from_run (x ∷ xs) w all = from_run xs (happens w x) (from_scene w x all)

pub all_from : (nodes : ℕ) (w : World) → IsReached nodes w → AllFrom w
all_from nodes w r = subst AllFrom r.reached (from_run r.schedule (first_world nodes) first) where
  first_from : (node : ℕ) → FromAt node (first_node node nodes)
  first_from node zero = tt
  first_from node (suc zero) = tt
  first_from node (suc (suc zero)) = tt
  first_from node (suc (suc (suc zero))) = tt
  first_from node (suc (suc (suc (suc zero)))) = tt
  first_from node (suc (suc (suc (suc (suc zero))))) = tt
  first_from node (suc (suc (suc (suc (suc (suc zero)))))) = tt
  first_from node (suc (suc (suc (suc (suc (suc (suc zero))))))) = tt
  first_from node (suc (suc (suc (suc (suc (suc (suc (suc k)))))))) = tt

  first : AllFrom (first_world nodes)
  first node n has = subst (FromAt node) (sym (first_at nodes node n has)) (first_from n.node)

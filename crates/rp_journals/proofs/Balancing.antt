-- What a node admitted is pending there or has ended, once.
use Rattle.std.proofs.Common.{◌≡◌, ℕ, zero, suc, ◌+◌, ◌≤◌, Bool, true, false, ⊎_elim, Option, None, Some, List, [], ◌∷◌, set, refl, sym, ap, subst, ◌∙◌, arith}
use Rattle.std.specs.Prelude.{slice_get, slice_index_or, ◌&&◌, count_by, sum_by}
use Rattle.std.proofs.lemmas.List.Sums.{sum_by-cons}
use Rattle.rp_base.specs.Ids.{same_id}
use Rattle.rp_base.specs.declared.ids.CmdId.{CmdId}
use Rattle.rp_base.specs.declared.items.Item.{Item}
use Rattle.rp_base.proofs.Counts.{count_cons, count_push, count_append}
use Rattle.rp_raftstep.specs.declared.messages.Message.{Message}
use Rattle.rp_raftstep.specs.declared.messages.Message.TheVariants.{Vote, VoteReply, Append, AppendReply, Forward, Snap}
use Rattle.rp_request.specs.Applied.{AppliedState}
use Rattle.rp_request.specs.declared.requests.Request.{Request}
use Rattle.rp_events.specs.declared.answers.Ended.{Ended}
use Rattle.rp_events.specs.declared.answers.EventAnswer.{EventAnswer}
use Rattle.rp_events.specs.declared.journals.JournalEntry.{JournalEntry}
use Rattle.rp_events.specs.declared.node_events.Event.{Event}
use Rattle.rp_events.specs.declared.node_events.Event.TheVariants as events
use Rattle.rp_events.specs.declared.replica_events.ReplicaEvent.{ReplicaEvent}
use Rattle.rp_events.specs.declared.replica_events.ReplicaEvent.TheVariants.{Admit, Ask, Transfer, Collect, Flush, Tick, Deliver, Apply, Cut, Remove, Peek, Restart}
use Rattle.rp_events.specs.Replicas.{Replica, Done, started}
use Rattle.rp_events.specs.ReplicaEvents.{event}
use Rattle.rp_events.specs.Nodes.{Node, Status, Absent, Live, Removed, seat, opened, opened_by, after_turn, range_numbers, right_base, right_base_term}
use Rattle.rp_events.specs.NodeEvents.{status_after, after_replica, by_status, live_turn, all_turns, delivered, seat_by_message, acted, step, with_request}
use Rattle.rp_events.specs.Worlds.{World, Scene, Schedule, first_world, node_of, taken_in, happens, run, is_admission_of}
use Rattle.rp_events.specs.Lawful.{AllLawful, IsReached}
use Rattle.rp_journals.specs.Asked.{times_asked}
use Rattle.rp_journals.specs.Ended.{pending_at, is_granted, is_grant_of, times_granted, times_pending, times_told, Balanced}
use Rattle.rp_journals.proofs.Growing.{Happened, happened, reached_later}
use Rattle.rp_journals.proofs.Reading.{entry_of, step_journal, node_after, first_at}
use Rattle.rp_journals.proofs.Writing.{later_scene, first_reached}
use Rattle.rp_journals.proofs.Asking.{times_at_most_once}
use Rattle.rp_journals.proofs.Counting.{one_if, told_of, pending_of, added_by, event_balance}

-- a sum over seats of which one changed
pub sum_seat : (f : Status → ℕ) (seats : List Status) (range : ℕ) (new : Status) (r : Replica) → slice_index_or seats range Absent ≡ Live r → sum_by f (set seats range new) + f (Live r) ≡ sum_by f seats + f new
sum_seat f [] range new r e = absurd (absent_live e)
  where
    absent_live : ◌≡◌ {A = Status} Absent (Live r) → ⊥
    absent_live e = cc
sum_seat f (s ∷ seats) zero new r e =
    let a = sum_by-cons f new seats in
    let b = sum_by-cons f s seats in
    let same : f s ≡ f (Live r) = ap f e in
    omega (arith, a, b, same)
sum_seat f (s ∷ seats) (suc range) new r e =
    let a = sum_by-cons f s (set seats range new) in
    let b = sum_by-cons f s seats in
    let more = sum_seat f seats range new r e in
    omega (arith, a, b, more)

pub sum_same : (f : Status → ℕ) (seats : List Status) (range : ℕ) (new : Status) → f new ≡ f (slice_index_or seats range Absent) → sum_by f (set seats range new) ≡ sum_by f seats
sum_same f [] range new e = refl
sum_same f (s ∷ seats) zero new e = sum_by-cons f new seats ∙ ap (λ k. k + sum_by f seats) e ∙ sym (sum_by-cons f s seats)
sum_same f (s ∷ seats) (suc range) new e = sum_by-cons f s (set seats range new) ∙ ap (λ k. f s + k) (sum_same f seats range new e) ∙ sym (sum_by-cons f s seats)

-- one of the seats
pub seat_le : (f : Status → ℕ) (seats : List Status) (range : ℕ) → f Absent ≡ 0 → f (slice_index_or seats range Absent) ≤ sum_by f seats
seat_le f [] range none = omega (arith, none)
seat_le f (s ∷ seats) zero none = let a = sum_by-cons f s seats in omega (arith, a)
seat_le f (s ∷ seats) (suc range) none =
    let a = sum_by-cons f s seats in
    let more = seat_le f seats range none in
    omega (arith, a, more)

abbrev pub in_seat : CmdId → Status → ℕ
in_seat q status = pending_of q (pending_at status)

abbrev pub total : CmdId → Node → ℕ
total q n = times_told q n + times_pending q n

abbrev pub TotalOnce : Node → Type 0
TotalOnce n = (q : CmdId) → total q n ≤ 1

turn_total : (q : CmdId) (n : Node) (range : ℕ) (r : Replica) (status : Status) (d : Done) (k : ℕ) → seat n range ≡ Live r → told_of q d.outcomes + in_seat q status ≡ pending_of q r.pending + k
    → total q (after_turn n range status d) ≡ total q n + k
turn_total q n range r status d k live balance =
    let told = count_append (λ (e : Ended). same_id e.id q) n.outcomes d.outcomes in
    let seats = sum_seat (in_seat q) n.seats range status r live in
    omega (arith, told, seats, balance)

opened_total : (q : CmdId) (n : Node) (o : Option AppliedState) → total q (opened n o) ≡ total q n
opened_total q n None = refl
opened_total q n (Some s) = go (seat n s.desc.id) refl where
  go : (status : Status) → seat n s.desc.id ≡ status → total q (opened_by n s status) ≡ total q n
  go Absent is = ap (λ k. times_told q n + k)
      (sum_same (in_seat q) n.seats s.desc.id (Live (started n.node n.nodes s.lease.holder right_base right_base_term s)) (ap (in_seat q) (sym is)))
  go (Live r) is = refl
  go (Removed applied) is = refl

pub once_in : (n : Node) (range : ℕ) (r : Replica) → TotalOnce n → seat n range ≡ Live r → (q : CmdId) → pending_of q r.pending ≤ 1
once_in n range r once live q =
    let le = seat_le (in_seat q) n.seats range refl in
    let is : in_seat q (seat n range) ≡ pending_of q r.pending = ap (in_seat q) live in
    let o = once q in
    omega (arith, le, is, o)

replica_total : (q : CmdId) (n : Node) (range : ℕ) (r : Replica) (e : ReplicaEvent AppliedState) (taken : List Item) → TotalOnce n → seat n range ≡ Live r
    → total q (after_replica n range e (event r e n.ticks n.rounds taken)) ≡ total q n + added_by q e (event r e n.ticks n.rounds taken).answer
replica_total q n range r e taken once live =
    let d : Done = event r e n.ticks n.rounds taken in
    opened_total q (after_turn n range (status_after e d.replica) d) d.right
    ∙ turn_total q n range r (status_after e d.replica) d (added_by q e d.answer) live (event_balance r (once_in n range r once live) q e n.ticks n.rounds taken)

-- an event that admits nothing
abbrev AddsNone : ReplicaEvent AppliedState → Type 0
AddsNone e = (q : CmdId) (answer : EventAnswer) → added_by q e answer ≡ 0

quiet_total : (q : CmdId) (n : Node) (range : ℕ) (r : Replica) (e : ReplicaEvent AppliedState) (taken : List Item) → AddsNone e → TotalOnce n → seat n range ≡ Live r
    → total q (after_replica n range e (event r e n.ticks n.rounds taken)) ≡ total q n
quiet_total q n range r e taken none once live =
    let k = replica_total q n range r e taken once live in
    let z = none q (event r e n.ticks n.rounds taken).answer in
    omega (arith, k, z)

status_total : (q : CmdId) (n : Node) (range : ℕ) (e : ReplicaEvent AppliedState) (taken : List Item) → AddsNone e → TotalOnce n → (status : Status) → seat n range ≡ status
    → total q (by_status n range e taken status).node ≡ total q n
status_total q n range e taken none once Absent is = refl
status_total q n range e taken none once (Live r) is = quiet_total q n range r e taken none once is
status_total q n range e taken none once (Removed applied) is = refl

live_total : (q : CmdId) (n : Node) (range : ℕ) (e : ReplicaEvent AppliedState) → AddsNone e → TotalOnce n → (status : Status) → seat n range ≡ status → total q (live_turn e n range status) ≡ total q n
live_total q n range e none once Absent is = refl
live_total q n range e none once (Live r) is = quiet_total q n range r e [] none once is
live_total q n range e none once (Removed applied) is = refl

all_total : (e : ReplicaEvent AppliedState) → AddsNone e → (ranges : List ℕ) (n : Node) → TotalOnce n → (q : CmdId) → total q (all_turns e n ranges) ≡ total q n
all_total e none [] n once q = refl
all_total e none (range ∷ ranges) n once q =
    let same : (k : CmdId) → total k (live_turn e n range (seat n range)) ≡ total k n = λ k. live_total k n range e none once (seat n range) refl in
    all_total e none ranges (live_turn e n range (seat n range)) (λ k. subst (λ z. z ≤ 1) (sym (same k)) (once k)) q ∙ same q

-- a snapshot makes a replica with nothing pending
made_none : (q : CmdId) (n : Node) (from : ℕ) (m : Message AppliedState) → in_seat q (seat_by_message n from m) ≡ 0
made_none q n from (Vote term last_index last_term) = refl
made_none q n from (VoteReply term granted) = refl
made_none q n from (Append term prev_index prev_term entries commit) = refl
made_none q n from (AppendReply term ok index) = refl
made_none q n from (Forward payload) = refl
made_none q n from (Snap term index index_term snapshot) = refl

message_total : (q : CmdId) (n : Node) (from range : ℕ) (m : Message AppliedState) → TotalOnce n → (status : Status) → seat n range ≡ status → total q (delivered n from range m status) ≡ total q n
message_total q n from range m once Absent is = ap (λ k. times_told q n + k)
    (sum_same (in_seat q) n.seats range (seat_by_message n from m) (made_none q n from m ∙ sym (ap (in_seat q) is)))
message_total q n from range m once (Live r) is = quiet_total q n range r (Deliver from m) [] (λ k answer. refl) once is
message_total q n from range m once (Removed applied) is = refl

and_false : (b : Bool) → (b && false) ≡ false
and_false true = refl
and_false false = refl

-- an admission
admit_total : (q : CmdId) (n : Node) (range : ℕ) (id : CmdId) (request : Request) → TotalOnce n → (status : Status) → seat n range ≡ status
    → total q (by_status (with_request n request) range (Admit id request) [] status).node
    ≡ total q n + one_if (same_id id q && is_granted (by_status (with_request n request) range (Admit id request) [] status).answer)
admit_total q n range id request once Absent is = let z : one_if (same_id id q && false) ≡ 0 = ap one_if (and_false (same_id id q)) in omega (arith, z)
admit_total q n range id request once (Live r) is = replica_total q (with_request n request) range r (Admit id request) [] once is
admit_total q n range id request once (Removed applied) is = let z : one_if (same_id id q && false) ≡ 0 = ap one_if (and_false (same_id id q)) in omega (arith, z)

acted_total : (q : CmdId) (n : Node) (e : Event AppliedState) (taken : List Item) → TotalOnce n → total q (acted n e taken).node ≡ total q n + one_if (is_grant_of q (entry_of n e taken))
acted_total q n (events.Admit range id request) taken once = admit_total q n range id request once (seat n range) refl
acted_total q n (events.Ask range) taken once = let k = status_total q n range Ask [] (λ k a. refl) once (seat n range) refl in omega (arith, k)
acted_total q n (events.Transfer range to) taken once = let k = status_total q n range (Transfer to) [] (λ k a. refl) once (seat n range) refl in omega (arith, k)
acted_total q n (events.Collect range) taken once = let k = status_total q n range Collect taken (λ k a. refl) once (seat n range) refl in omega (arith, k)
acted_total q n (events.Flush range) taken once = let k = status_total q n range Flush [] (λ k a. refl) once (seat n range) refl in omega (arith, k)
acted_total q n events.Tick taken once = let k = all_total Tick (λ k a. refl) range_numbers (record n { ticks = n.ticks + 1 }) once q in omega (arith, k)
acted_total q n (events.Deliver from range number m) taken once = let k = message_total q n from range m once (seat n range) refl in omega (arith, k)
acted_total q n (events.Apply range) taken once = let k = status_total q n range Apply [] (λ k a. refl) once (seat n range) refl in omega (arith, k)
acted_total q n (events.Cut range) taken once = let k = status_total q n range Cut [] (λ k a. refl) once (seat n range) refl in omega (arith, k)
acted_total q n (events.Remove range) taken once = let k = status_total q n range Remove [] (λ k a. refl) once (seat n range) refl in omega (arith, k)
acted_total q n (events.Peek range key) taken once = let k = status_total q n range (Peek key) [] (λ k a. refl) once (seat n range) refl in omega (arith, k)
acted_total q n events.Restart taken once = let k = all_total Restart (λ k a. refl) range_numbers n once q in omega (arith, k)
acted_total q n events.Round taken once = omega arith

-- one node of a world
pub node_le : (f : Node → ℕ) (w : World) (node : ℕ) (n : Node) → node_of w node ≡ Some n → f n ≤ sum_by f w
node_le f w zero n e = absurd (none_some e)
  where
    none_some : ◌≡◌ {A = Option Node} None (Some n) → ⊥
    none_some e = cc
node_le f w (suc place) n e = at w place e where
  some_is : (a b : Node) → ◌≡◌ {A = Option Node} (Some a) (Some b) → a ≡ b
  some_is a b e = cc

  at : (w : World) (place : ℕ) → slice_get w place ≡ Some n → f n ≤ sum_by f w
  at [] place e = absurd cc
  at (m ∷ w) zero e = let a = sum_by-cons f m w in let same : f m ≡ f n = ap f (some_is m n e) in omega (arith, a, same)
  at (m ∷ w) (suc place) e = let a = sum_by-cons f m w in let more = at w place e in omega (arith, a, more)

-- of two tests that must pass fewer do
pub both_fewer : {X : Type 0} (a b : X → Bool) (xs : List X) → count_by (λ x. a x && b x) xs ≤ count_by a xs
both_fewer a b [] = omega arith
both_fewer a b (x ∷ xs) =
    let l = count_cons (λ z. a z && b z) x xs in
    let r = count_cons a x xs in
    let more = both_fewer a b xs in
    let here : one_if (a x && b x) ≤ one_if (a x) = less (a x) (b x) in
    omega (arith, l, r, more, here)
  where
    less : (c d : Bool) → one_if (c && d) ≤ one_if c
    less true true = omega arith
    less true false = omega arith
    less false d = omega arith

pub granted_once : (w : World) (node : ℕ) (n : Node) → node_of w node ≡ Some n → (q : CmdId) → times_asked w q ≤ 1 → times_granted q n ≤ 1
granted_once w node n has q once =
    let fewer = both_fewer (is_admission_of q) (λ (e : JournalEntry). is_granted e.answer) n.journal in
    let le = node_le (λ (k : Node). count_by (is_admission_of q) k.journal) w node n has in
    omega (arith, fewer, le, once)

abbrev BalancedAt : ℕ → Node → Type 0
BalancedAt node n = (q : CmdId) → total q n ≡ times_granted q n

pub total_once : (w : World) → Balanced w → ((q : CmdId) → times_asked w q ≤ 1) → (node : ℕ) (n : Node) → node_of w node ≡ Some n → TotalOnce n
total_once w b once node n has q =
    let k = b q node n has in
    let g = granted_once w node n has q (once q) in
    omega (arith, k, g)

balanced_scene : (nodes : ℕ) (w : World) (x : Scene) → IsReached nodes w → Balanced w → Balanced (happens w x)
balanced_scene nodes w x reached b = ⊎_elim
    (λ (same : happens w x ≡ w). subst Balanced (sym same) b)
    (λ (k : Happened w x). subst Balanced (sym k.is)
    (λ q node n has. node_after BalancedAt w x.node k.n (step k.n k.event (taken_in x.what)).node k.has
    (λ q'.
    let once : TotalOnce k.n = total_once w b (times_at_most_once nodes w reached) x.node k.n k.has in
    let acts = acted_total q' k.n k.event (taken_in x.what) once in
    let was = b q' x.node k.n k.has in
    let grown : times_granted q' (step k.n k.event (taken_in x.what)).node ≡ times_granted q' k.n + one_if (is_grant_of q' (entry_of k.n k.event (taken_in x.what))) =
    ap (count_by (is_grant_of q')) (step_journal k.n k.event (taken_in x.what)) ∙ count_push (is_grant_of q') k.n.journal (entry_of k.n k.event (taken_in x.what)) in
    omega (arith, acts, was, grown))
    (λ other m ne is q'. b q' other m is) node n has q))
    (happened w x)

balanced_run : (nodes : ℕ) (xs : Schedule) (w : World) → IsReached nodes w → AllLawful w xs → Balanced w → Balanced (run w xs)
balanced_run nodes [] w reached lawful b = b
balanced_run nodes (x ∷ xs) w reached lawful b =
    balanced_run nodes xs (happens w x) (reached_later nodes w (happens w x) reached (later_scene w x lawful.0)) lawful.1 (balanced_scene nodes w x reached b)

pub balanced : (nodes : ℕ) (w : World) → IsReached nodes w → Balanced w
balanced nodes w r = subst Balanced r.reached (balanced_run nodes r.schedule (first_world nodes) (first_reached nodes w r) r.lawful
    (λ q node n has. subst (λ (z : Node). total q z ≡ times_granted q z) (sym (first_at nodes node n has)) refl))

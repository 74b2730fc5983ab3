-- A node's lists and counts stay within its journal.
use Rattle.std.proofs.Common.{◌≡◌, ℕ, ◌+◌, ◌-◌, ◌≤◌, Bool, true, false, max, ⊎_elim, Option, None, Some, List, [], ◌∷◌, ◌++◌, length, length-append, refl, sym, ap, subst, ◌∙◌, arith}
use Rattle.std.specs.Prelude.{not, count_by, filter_map, fold}
use Rattle.rp_base.specs.declared.ids.CmdId.{CmdId}
use Rattle.rp_base.specs.declared.items.Item.{Item}
use Rattle.rp_base.proofs.Counts.{count_cons, count_push}
use Rattle.rp_raftstep.specs.declared.messages.Message.{Message}
use Rattle.rp_raftstep.specs.declared.messages.Message.TheVariants.{Vote, VoteReply, Append, AppendReply, Forward, Snap}
use Rattle.rp_request.specs.Applied.{AppliedState}
use Rattle.rp_request.specs.declared.requests.Request.{Request}
use Rattle.rp_events.specs.declared.journals.JournalEntry.{JournalEntry}
use Rattle.rp_events.specs.declared.node_events.Event.{Event}
use Rattle.rp_events.specs.declared.node_events.Event.TheVariants as events
use Rattle.rp_events.specs.declared.replica_events.ReplicaEvent.{ReplicaEvent}
use Rattle.rp_events.specs.declared.replica_events.ReplicaEvent.TheVariants.{Admit, Ask, Transfer, Collect, Flush, Tick, Deliver, Apply, Cut, Remove, Peek, Restart}
use Rattle.rp_events.specs.Replicas.{Replica, Done, started}
use Rattle.rp_events.specs.ReplicaEvents.{event}
use Rattle.rp_events.specs.Nodes.{Node, Status, Absent, Live, Removed, seat, opened, opened_by, after_turn, first_round_in, range_numbers, right_base, right_base_term}
use Rattle.rp_events.specs.NodeEvents.{status_after, after_replica, by_status, live_turn, all_turns, delivered, seat_by_message, acted, step, with_request, past_of}
use Rattle.rp_events.specs.Worlds.{World, Scene, Schedule, first_world, node_of, taken_in, happens, run}
use Rattle.rp_events.specs.Lawful.{IsReached}
use Rattle.rp_journals.specs.Ended.{pending_at}
use Rattle.rp_journals.specs.Numbers.{is_admission, admissions, other_events, all_pending, IsWithin}
use Rattle.rp_journals.proofs.Growing.{Happened, happened}
use Rattle.rp_journals.proofs.Reading.{entry_of, step_journal, node_after, first_at}
use Rattle.rp_journals.proofs.Counting.{one_if}
use Rattle.rp_journals.proofs.Balancing.{sum_seat, sum_same}
use Rattle.rp_journals.proofs.Sizes.{one_more, event_light}

-- what the turns of seats leave
record SameCounts (n m : Node) : Type 0 where
  ticks : m.ticks ≡ n.ticks
  rounds : m.rounds ≡ n.rounds
  waited : m.waited ≡ n.waited
  requests : m.requests ≡ n.requests

counts_refl : (n : Node) → SameCounts n n
counts_refl n = record { ticks = refl; rounds = refl; waited = refl; requests = refl }

counts_trans : (n m k : Node) → SameCounts n m → SameCounts m k → SameCounts n k
counts_trans n m k a b = record { ticks = b.ticks ∙ a.ticks; rounds = b.rounds ∙ a.rounds; waited = b.waited ∙ a.waited; requests = b.requests ∙ a.requests }

abbrev long_at : Status → ℕ
long_at status = length (pending_at status)

abbrev weight : Node → ℕ
weight n = length n.outcomes + all_pending n

-- a turn, and what it adds to what is pending and told
record Turned (n m : Node) (more : ℕ) : Type 0 where
  counts : SameCounts n m
  weighs : weight m ≤ weight n + more

turned_refl : (n : Node) → Turned n n 0
turned_refl n = record { counts = counts_refl n; weighs = omega arith }

turned_trans : (n m k : Node) → Turned n m 0 → Turned m k 0 → Turned n k 0
turned_trans n m k a b = record { counts = counts_trans n m k a.counts b.counts; weighs = let x = a.weighs in let y = b.weighs in omega (arith, x, y) }

turned_opened : (n : Node) (o : Option AppliedState) → Turned n (opened n o) 0
turned_opened n None = turned_refl n
turned_opened n (Some s) = go (seat n s.desc.id) refl where
  go : (status : Status) → seat n s.desc.id ≡ status → Turned n (opened_by n s status) 0
  go Absent is = record {
    counts = record { ticks = refl; rounds = refl; waited = refl; requests = refl };
    weighs =
        let k = sum_same long_at n.seats s.desc.id (Live (started n.node n.nodes s.lease.holder right_base right_base_term s)) (ap long_at (sym is)) in
        omega (arith, k);
  }
  go (Live r) is = turned_refl n
  go (Removed applied) is = turned_refl n

turned_replica : (n : Node) (range : ℕ) (r : Replica) (e : ReplicaEvent AppliedState) (taken : List Item) → seat n range ≡ Live r → Turned n (after_replica n range e (event r e n.ticks n.rounds taken)) (one_more e)
turned_replica n range r e taken live =
    let d : Done = event r e n.ticks n.rounds taken in
    let turned : Node = after_turn n range (status_after e d.replica) d in
    let o : Turned turned (opened turned d.right) 0 = turned_opened turned d.right in
    record {
      counts = counts_trans n turned (opened turned d.right) (record { ticks = refl; rounds = refl; waited = refl; requests = refl }) o.counts;
      weighs =
          let told = length-append n.outcomes d.outcomes in
          let seats = sum_seat long_at n.seats range (status_after e d.replica) r live in
          let light = event_light r e n.ticks n.rounds taken in
          let more = o.weighs in
          omega (arith, told, seats, light, more);
    }

-- an event that is no admission
abbrev IsOther : ReplicaEvent AppliedState → Type 0
IsOther e = one_more e ≡ 0

turned_other : (n : Node) (range : ℕ) (r : Replica) (e : ReplicaEvent AppliedState) (taken : List Item) → IsOther e → seat n range ≡ Live r → Turned n (after_replica n range e (event r e n.ticks n.rounds taken)) 0
turned_other n range r e taken other live = subst (Turned n (after_replica n range e (event r e n.ticks n.rounds taken))) other (turned_replica n range r e taken live)

turned_status : (n : Node) (range : ℕ) (e : ReplicaEvent AppliedState) (taken : List Item) → IsOther e → (status : Status) → seat n range ≡ status → Turned n (by_status n range e taken status).node 0
turned_status n range e taken other Absent is = turned_refl n
turned_status n range e taken other (Live r) is = turned_other n range r e taken other is
turned_status n range e taken other (Removed applied) is = turned_refl n

turned_live : (n : Node) (range : ℕ) (e : ReplicaEvent AppliedState) → IsOther e → (status : Status) → seat n range ≡ status → Turned n (live_turn e n range status) 0
turned_live n range e other Absent is = turned_refl n
turned_live n range e other (Live r) is = turned_other n range r e [] other is
turned_live n range e other (Removed applied) is = turned_refl n

turned_all : (e : ReplicaEvent AppliedState) → IsOther e → (ranges : List ℕ) (n : Node) → Turned n (all_turns e n ranges) 0
turned_all e other [] n = turned_refl n
turned_all e other (range ∷ ranges) n =
    let m : Node = live_turn e n range (seat n range) in
    turned_trans n m (all_turns e m ranges) (turned_live n range e other (seat n range) refl) (turned_all e other ranges m)

made_none : (n : Node) (from : ℕ) (m : Message AppliedState) → long_at (seat_by_message n from m) ≡ 0
made_none n from (Vote term last_index last_term) = refl
made_none n from (VoteReply term granted) = refl
made_none n from (Append term prev_index prev_term entries commit) = refl
made_none n from (AppendReply term ok index) = refl
made_none n from (Forward payload) = refl
made_none n from (Snap term index index_term snapshot) = refl

turned_message : (n : Node) (from range : ℕ) (m : Message AppliedState) (status : Status) → seat n range ≡ status → Turned n (delivered n from range m status) 0
turned_message n from range m Absent is = record {
  counts = record { ticks = refl; rounds = refl; waited = refl; requests = refl };
  weighs =
      let k = sum_same long_at n.seats range (seat_by_message n from m) (made_none n from m ∙ sym (ap long_at is)) in
      omega (arith, k);
}
turned_message n from range m (Live r) is = turned_other n range r (Deliver from m) [] refl is
turned_message n from range m (Removed applied) is = turned_refl n

-- the longest wait is no longer than the rounds
waits_most : (rounds m : ℕ) (firsts : List ℕ) → m ≤ rounds → fold (λ (most : ℕ) (first : ℕ). max most (rounds - first)) m firsts ≤ rounds
waits_most rounds m [] h = h
waits_most rounds m (first ∷ firsts) h = waits_most rounds (max m (rounds - first)) firsts (omega (arith, h))

-- what an event leaves of the counts, before it is written down
record ActsWithin (n : Node) (e : Event AppliedState) (taken : List Item) : Type 0 where
  requests : length (acted n e taken).node.requests ≡ length n.requests + one_if (is_admission (past_of n e taken))
  weighs : weight (acted n e taken).node ≤ weight n + one_if (is_admission (past_of n e taken))
  ticks : (acted n e taken).node.ticks ≤ n.ticks + one_if (not (is_admission (past_of n e taken)))
  rounds : (acted n e taken).node.rounds ≤ n.rounds + one_if (not (is_admission (past_of n e taken)))
  waited : n.waited ≤ n.rounds → (acted n e taken).node.waited ≤ (acted n e taken).node.rounds

other_acts : (n m : Node) → Turned n m 0 → (e : Event AppliedState) (taken : List Item) → (acted n e taken).node ≡ m → is_admission (past_of n e taken) ≡ false → ActsWithin n e taken
other_acts n m t e taken is other =
    let no : one_if (is_admission (past_of n e taken)) ≡ 0 = ap one_if other in
    let requests : length (acted n e taken).node.requests ≡ length n.requests = ap (λ (z : Node). length z.requests) is ∙ ap length t.counts.requests in
    let weighs : weight m ≤ weight n + 0 = t.weighs in
    let weighed : weight (acted n e taken).node ≡ weight m = ap weight is in
    let ticks : (acted n e taken).node.ticks ≡ n.ticks = ap (λ (z : Node). z.ticks) is ∙ t.counts.ticks in
    let rounds : (acted n e taken).node.rounds ≡ n.rounds = ap (λ (z : Node). z.rounds) is ∙ t.counts.rounds in
    let waited : (acted n e taken).node.waited ≡ n.waited = ap (λ (z : Node). z.waited) is ∙ t.counts.waited in
    record {
      requests = omega (arith, requests, no);
      weighs = omega (arith, weighs, weighed, no);
      ticks = omega (arith, ticks);
      rounds = omega (arith, rounds);
      waited = λ h. omega (arith, h, waited, rounds);
    }

turned_more : (n m : Node) → Turned n m 0 → Turned n m 1
turned_more n m t = record { counts = t.counts; weighs = let k = t.weighs in omega (arith, k) }

admit_turned : (n : Node) (range : ℕ) (id : CmdId) (request : Request) (status : Status) → seat n range ≡ status
    → Turned (with_request n request) (by_status (with_request n request) range (Admit id request) [] status).node 1
admit_turned n range id request Absent is = turned_more (with_request n request) (with_request n request) (turned_refl (with_request n request))
admit_turned n range id request (Live r) is = turned_replica (with_request n request) range r (Admit id request) [] is
admit_turned n range id request (Removed applied) is = turned_more (with_request n request) (with_request n request) (turned_refl (with_request n request))

acts_within : (n : Node) (e : Event AppliedState) (taken : List Item) → ActsWithin n e taken
acts_within n (events.Admit range id request) taken =
    let asked : Node = with_request n request in
    let t : Turned asked (by_status asked range (Admit id request) [] (seat n range)).node 1 = admit_turned n range id request (seat n range) refl in
    let weighs = t.weighs in
    record {
      requests = let k : length (acted n (events.Admit range id request) taken).node.requests ≡ length (n.requests ++ request ∷ []) = ap length t.counts.requests in let l = length-append n.requests (request ∷ []) in omega (arith, k, l);
      weighs = omega (arith, weighs);
      ticks = let k = t.counts.ticks in omega (arith, k);
      rounds = let k = t.counts.rounds in omega (arith, k);
      waited = λ h. let k = t.counts.waited in let l = t.counts.rounds in omega (arith, h, k, l);
    }
acts_within n (events.Ask range) taken = other_acts n _ (turned_status n range Ask [] refl (seat n range) refl) (events.Ask range) taken refl refl
acts_within n (events.Transfer range to) taken = other_acts n _ (turned_status n range (Transfer to) [] refl (seat n range) refl) (events.Transfer range to) taken refl refl
acts_within n (events.Collect range) taken = other_acts n _ (turned_status n range Collect taken refl (seat n range) refl) (events.Collect range) taken refl refl
acts_within n (events.Flush range) taken = other_acts n _ (turned_status n range Flush [] refl (seat n range) refl) (events.Flush range) taken refl refl
acts_within n events.Tick taken =
    let ticked : Node = record n { ticks = n.ticks + 1 } in
    let t : Turned ticked (all_turns Tick ticked range_numbers) 0 = turned_all Tick refl range_numbers ticked in
    let weighs = t.weighs in
    record {
      requests = let k : length (acted n events.Tick taken).node.requests ≡ length n.requests = ap length t.counts.requests in omega (arith, k);
      weighs = omega (arith, weighs);
      ticks = let k = t.counts.ticks in omega (arith, k);
      rounds = let k = t.counts.rounds in omega (arith, k);
      waited = λ h. let k = t.counts.waited in let l = t.counts.rounds in omega (arith, h, k, l);
    }
acts_within n (events.Deliver from range number m) taken = other_acts n _ (turned_message n from range m (seat n range) refl) (events.Deliver from range number m) taken refl refl
acts_within n (events.Apply range) taken = other_acts n _ (turned_status n range Apply [] refl (seat n range) refl) (events.Apply range) taken refl refl
acts_within n (events.Cut range) taken = other_acts n _ (turned_status n range Cut [] refl (seat n range) refl) (events.Cut range) taken refl refl
acts_within n (events.Remove range) taken = other_acts n _ (turned_status n range Remove [] refl (seat n range) refl) (events.Remove range) taken refl refl
acts_within n (events.Peek range key) taken = other_acts n _ (turned_status n range (Peek key) [] refl (seat n range) refl) (events.Peek range key) taken refl refl
acts_within n events.Restart taken = other_acts n _ (turned_all Restart refl range_numbers n) events.Restart taken refl refl
acts_within n events.Round taken = record {
  requests = omega arith;
  weighs = omega arith;
  ticks = omega arith;
  rounds = omega arith;
  waited = λ h. let k = waits_most (n.rounds + 1) 0 (filter_map first_round_in n.seats) (omega arith) in omega (arith, h, k);
}

count_both : {X : Type 0} (test : X → Bool) (xs : List X) → length xs ≡ count_by test xs + count_by (λ x. not (test x)) xs
count_both test [] = refl
count_both {X} test (x ∷ xs) =
    let a = count_cons test x xs in
    let b = count_cons (λ y. not (test y)) x xs in
    let more = count_both test xs in
    let here : 1 ≡ one_if (test x) + one_if (not (test x)) = one (test x) in
    omega (arith, a, b, more, here)
  where
    one : (b : Bool) → 1 ≡ one_if b + one_if (not b)
    one true = refl
    one false = refl

within_step : (n : Node) (e : Event AppliedState) (taken : List Item) → IsWithin n → IsWithin (step n e taken).node
within_step n e taken w =
    let new : Node = (step n e taken).node in
    let a : ActsWithin n e taken = acts_within n e taken in
    let admitted : admissions new ≡ admissions n + one_if (is_admission (past_of n e taken)) =
    ap (count_by (λ (x : JournalEntry). is_admission x.event)) (step_journal n e taken) ∙ count_push (λ (x : JournalEntry). is_admission x.event) n.journal (entry_of n e taken) in
    let others : other_events new ≡ other_events n + one_if (not (is_admission (past_of n e taken))) =
    ap (count_by (λ (x : JournalEntry). not (is_admission x.event))) (step_journal n e taken) ∙ count_push (λ (x : JournalEntry). not (is_admission x.event)) n.journal (entry_of n e taken) in
    let requests = a.requests in
    let was_requests = w.requests in
    let weighs = a.weighs in
    let was_pending = w.pending in
    let ticks = a.ticks in
    let was_ticks = w.ticks in
    let rounds = a.rounds in
    let was_rounds = w.rounds in
    record {
      events = count_both (λ (x : JournalEntry). is_admission x.event) new.journal;
      requests = omega (arith, requests, was_requests, admitted);
      pending = omega (arith, weighs, was_pending, admitted);
      ticks = omega (arith, ticks, was_ticks, others);
      rounds = omega (arith, rounds, was_rounds, others);
      waited = a.waited w.waited;
    }

abbrev AllWithin : World → Type 0
AllWithin w = (node : ℕ) (n : Node) → node_of w node ≡ Some n → IsWithin n

within_scene : (w : World) (x : Scene) → AllWithin w → AllWithin (happens w x)
within_scene w x all = ⊎_elim
    (λ (same : happens w x ≡ w). subst AllWithin (sym same) all)
    (λ (k : Happened w x). subst AllWithin (sym k.is)
    (node_after (λ node n. IsWithin n) w x.node k.n (step k.n k.event (taken_in x.what)).node k.has
    (within_step k.n k.event (taken_in x.what) (all x.node k.n k.has)) (λ other m ne is. all other m is)))
    (happened w x)

within_run : (xs : Schedule) (w : World) → AllWithin w → AllWithin (run w xs)
within_run [] w all = all
within_run (x ∷ xs) w all = within_run xs (happens w x) (within_scene w x all)

pub all_within : (nodes : ℕ) (w : World) → IsReached nodes w → (node : ℕ) (n : Node) → node_of w node ≡ Some n → IsWithin n
all_within nodes w r = subst AllWithin r.reached (within_run r.schedule (first_world nodes) first) where
  first : AllWithin (first_world nodes)
  first node n has = subst IsWithin (sym (first_at nodes node n has))
      (record { events = refl; requests = omega arith; pending = omega arith; ticks = omega arith; rounds = omega arith; waited = omega arith })

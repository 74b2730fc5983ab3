-- What has not ended is pending at its replica, and what is pending has not ended.
use Rattle.std.proofs.Common.{◌≡◌, ℕ, zero, suc, ◌<◌, ◌≤◌, Bool, true, false, cond, ◌⊎◌, inl, inr, Option, None, Some, Result, Ok, Err, List, [], ◌∷◌, refl, sym, ap, subst, ◌∙◌, arith}
use Rattle.std.specs.Prelude.{slice_get, ◌||◌, count_by, option_and_then}
use Rattle.std.specs.List.{find, list_any, AllByRecursion}
use Rattle.std.specs.Option.{option_map, option_map_or}
use Rattle.std.proofs.lemmas.Bool.{and_from, and_parts}
use Rattle.std.proofs.lemmas.Option.{get_or_from_slice_get}
use Rattle.rp_base.specs.Ids.{same_id}
use Rattle.rp_base.specs.declared.ids.CmdId.{CmdId}
use Rattle.rp_base.specs.declared.items.Item.{Item}
use Rattle.rp_base.proofs.Counts.{count_cons}
use Rattle.rp_base.proofs.IdLaws.{same_is, same_itself}
use Rattle.rp_request.specs.Applied.{AppliedState}
use Rattle.rp_request.specs.declared.outcomes.Outcome.{Outcome}
use Rattle.rp_request.specs.declared.outcomes.Outcome.TheVariants as outcomes
use Rattle.rp_request.specs.declared.outcomes.Refusal.{Refusal}
use Rattle.rp_request.specs.declared.outcomes.Refusal.TheVariants.{NoReplica}
use Rattle.rp_request.specs.declared.evaluations.Evaluated.{Evaluated}
use Rattle.rp_pending.specs.Proposals.{has_id, proposal_of}
use Rattle.rp_pending.specs.declared.proposals.Proposal.{Proposal}
use Rattle.rp_events.specs.declared.answers.Ended.{Ended}
use Rattle.rp_events.specs.declared.answers.EventAnswer.{EventAnswer}
use Rattle.rp_events.specs.declared.answers.EventAnswer.TheVariants as answers
use Rattle.rp_events.specs.declared.journals.JournalEntry.{JournalEntry}
use Rattle.rp_events.specs.declared.journals.PastEvent.TheVariants as past
use Rattle.rp_events.specs.declared.node_events.Event.{Event}
use Rattle.rp_events.specs.declared.node_events.Event.TheVariants as events
use Rattle.rp_events.specs.declared.replica_events.ReplicaEvent.TheVariants as at_replica
use Rattle.rp_events.specs.Replicas.{Replica}
use Rattle.rp_events.specs.Admissions.{guarded, admitted_by}
use Rattle.rp_events.specs.Nodes.{Node, Status, Absent, Live, Removed, seat}
use Rattle.rp_events.specs.NodeEvents.{by_status, step, with_request}
use Rattle.rp_events.specs.Worlds.{World, node_of, taken_in, is_admission_of, asked_at, ended_of, outcome_by, outcome_at, outcome_of}
use Rattle.rp_events.specs.Lawful.{IsReached}
use Rattle.rp_events.specs.Lists.{IsLiveAt, IsWritten, IsAdmitted}
use Rattle.rp_events.specs.Promises.{IsPendingThere, times_ended}
use Rattle.rp_journals.specs.Entries.{WasWritten}
use Rattle.rp_journals.specs.Asked.{AskedOnce}
use Rattle.rp_journals.specs.Ended.{pending_at, is_granted, is_grant_of, times_granted, times_pending, times_told, IsFrom, IsTrueEnd, IsHeldThere}
use Rattle.rp_journals.proofs.Growing.{one_node}
use Rattle.rp_journals.proofs.Reading.{entry_of}
use Rattle.rp_journals.proofs.Writing.{written}
use Rattle.rp_journals.proofs.Asking.{asked_once, times_at_most_once, any_at, none_counted, true_not_false}
use Rattle.rp_journals.proofs.Counting.{one_if, pending_of}
use Rattle.rp_journals.proofs.Balancing.{in_seat, seat_le, once_in, total_once, balanced}
use Rattle.rp_journals.proofs.Coming.{all_found, all_from}
use Rattle.rp_journals.proofs.Ending.{found_passes}
use Rattle.rp_journals.proofs.Telling.{OutcomeFrom, ToldBy, outcome_from, told_by, true_ends, sum_some, count_some, found_place}

-- an admission is answered by a grant or by a refusal
pub answered : (n : Node) (taken : List Item) (id : CmdId) (ev : Event AppliedState) → is_admission_of id (entry_of n ev taken) ≡ true
    → ((step n ev taken).answer ≡ answers.Admitted) ⊎ ((why : Refusal) × ((step n ev taken).answer ≡ answers.Refused why))
answered n taken id (events.Admit range other request) e = by_seat (seat n range) refl where
  Goal : EventAnswer → Type 0
  Goal a = (a ≡ answers.Admitted) ⊎ ((why : Refusal) × (a ≡ answers.Refused why))

  by_guard : (r : Replica) (g : Result Evaluated Refusal) → Goal (admitted_by r other request g).answer
  by_guard r (Ok ev) = inl refl
  by_guard r (Err why) = inr (why, refl)

  by_seat : (s : Status) → seat n range ≡ s → Goal (by_status (with_request n request) range (at_replica.Admit other request) [] s).answer
  by_seat Absent is = inr (NoReplica, refl)
  by_seat (Live r) is = by_guard r (guarded r request)
  by_seat (Removed applied) is = inr (NoReplica, refl)
answered n taken id (events.Ask range) e = absurd cc
answered n taken id (events.Transfer range to) e = absurd cc
answered n taken id (events.Collect range) e = absurd cc
answered n taken id (events.Flush range) e = absurd cc
answered n taken id events.Tick e = absurd cc
answered n taken id (events.Deliver from range number m) e = absurd cc
answered n taken id (events.Apply range) e = absurd cc
answered n taken id (events.Cut range) e = absurd cc
answered n taken id (events.Remove range) e = absurd cc
answered n taken id (events.Peek range key) e = absurd cc
answered n taken id events.Restart e = absurd cc
answered n taken id events.Round e = absurd cc

pub answered_entry : (nodes : ℕ) (w : World) → IsReached nodes w → (id : CmdId) (node place : ℕ) (e : JournalEntry) → IsWritten w node place e → is_admission_of id e ≡ true
    → (e.answer ≡ answers.Admitted) ⊎ ((why : Refusal) × (e.answer ≡ answers.Refused why))
answered_entry nodes w r id node place e is asks =
    let k : WasWritten nodes w node place e = written nodes w r node place e is in
    let entry : e ≡ entry_of k.n k.event (taken_in k.what) = k.entry in
    subst (λ (z : JournalEntry). (z.answer ≡ answers.Admitted) ⊎ ((why : Refusal) × (z.answer ≡ answers.Refused why))) (sym entry)
    (answered k.n (taken_in k.what) id k.event (subst (λ z. is_admission_of id z ≡ true) entry asks))

count_above : {X : Type 0} (test : X → Bool) (xs : List X) (i : ℕ) (x : X) → slice_get xs i ≡ Some x → test x ≡ true → 0 < count_by test xs
count_above test xs i x at is = go (count_by test xs) refl where
  go : (c : ℕ) → count_by test xs ≡ c → 0 < c
  go (suc c) e = omega arith
  go zero e = absurd (true_not_false (list_any test xs) (any_at test xs i x at is) (uncounted test xs e)) where
    uncounted : {X : Type 0} (test : X → Bool) (xs : List X) → count_by test xs ≡ 0 → list_any test xs ≡ false
    uncounted test [] e = refl
    uncounted {X} test (z ∷ xs) e = by_test (test z) refl (uncounted test xs) where
      by_test : (b : Bool) → test z ≡ b → (count_by test xs ≡ 0 → list_any test xs ≡ false) → (b || list_any test xs) ≡ false
      by_test true is' ih = absurd (let k = count_cons test z xs in let one : one_if (test z) ≡ 1 = ap one_if is' in omega (arith, k, one, e))
      by_test false is' ih = ih (let k = count_cons test z xs in omega (arith, k, e))

-- what is counted is found
find_some : (id : CmdId) (ps : List Proposal) → 0 < pending_of id ps → (p : Proposal) × (proposal_of id ps ≡ Some p)
find_some id [] l = absurd (omega (arith, l))
find_some id (p ∷ ps) l = go (has_id id p) refl (find_some id ps) where
  go : (b : Bool) → has_id id p ≡ b → (0 < pending_of id ps → (x : Proposal) × (proposal_of id ps ≡ Some x)) → (x : Proposal) × (cond b (Some p) (find (has_id id) ps) ≡ Some x)
  go true is ih = (p, refl)
  go false is ih = ih (let k = count_cons (has_id id) p ps in let none : one_if (has_id id p) ≡ 0 = ap one_if is in omega (arith, k, none, l))

-- an attempt that the list of outcomes leaves pending has no end there
unlisted : (nodes : ℕ) (w : World) → IsReached nodes w → (id : CmdId) (node : ℕ) (n : Node) → node_of w node ≡ Some n
    → option_map_or (λ (o : Outcome). o) (ended_of id n.outcomes) outcomes.Pending ≡ outcomes.Pending → times_told id n ≡ 0
unlisted nodes w r id node n has is = go (find (λ (e : Ended). same_id e.id id) n.outcomes) refl where
  go : (f : Option Ended) → find (λ (e : Ended). same_id e.id id) n.outcomes ≡ f → times_told id n ≡ 0
  go None found = none_counted (λ (e : Ended). same_id e.id id) n.outcomes (none_any n.outcomes found) where
    none_any : (es : List Ended) → find (λ (e : Ended). same_id e.id id) es ≡ None → list_any (λ (e : Ended). same_id e.id id) es ≡ false
    none_any [] f = refl
    none_any (e ∷ es) f = by_test (same_id e.id id) f (none_any es) where
      by_test : (b : Bool) → cond b (Some e) (find (λ (x : Ended). same_id x.id id) es) ≡ None → (find (λ (x : Ended). same_id x.id id) es ≡ None → list_any (λ (x : Ended). same_id x.id id) es ≡ false)
          → (b || list_any (λ (x : Ended). same_id x.id id) es) ≡ false
      by_test true f' ih = absurd cc
      by_test false f' ih = ih f'
  go (Some e) found =
      let outcome_is : e.outcome ≡ outcomes.Pending = sym (ap (λ z. option_map_or (λ (o : Outcome). o) (option_map (λ (x : Ended). x.outcome) z) outcomes.Pending) found) ∙ is in
      absurd (subst (IsTrueEnd w e.id) outcome_is (all_found (λ (z : Ended). IsTrueEnd w z.id z.outcome) (λ (z : Ended). same_id z.id id) n.outcomes e (true_ends nodes w r node n has) found))

-- of an attempt that was granted and has no end a replica of its node has the proposal
held_there : (nodes : ℕ) (w : World) → IsReached nodes w → (id : CmdId) (node : ℕ) (n : Node) → node_of w node ≡ Some n → 0 < times_granted id n → times_told id n ≡ 0 → IsPendingThere w id
held_there nodes w r id node n has granted none =
    let k = balanced nodes w r id node n has in
    let pending : 0 < times_pending id n = omega (arith, k, granted, none) in
    let s = sum_some (in_seat id) n.seats pending in
    let at : seat n s.0 ≡ s.1 = get_or_from_slice_get n.seats s.0 s.1 Absent s.2 in
    by_seat s.0 s.1 at s.3
  where
    by_seat : (range : ℕ) (status : Status) → seat n range ≡ status → 0 < in_seat id status → IsPendingThere w id
    by_seat range Absent is l = absurd (omega (arith, l))
    by_seat range (Live replica) is l =
        let p = find_some id replica.pending l in
        let h : IsFrom n range p.0 = all_found (IsFrom n range) (has_id id) replica.pending p.0 (subst (λ s. AllByRecursion (IsFrom n range) (pending_at s)) is (all_from nodes w r node n has range)) p.1 in
        record {
          node = node;
          admitted_at = h.place;
          range = range;
          request = p.0.request;
          admitted = subst (λ i. IsAdmitted w i node h.place range p.0.request) (sym (same_is id p.0.id (found_passes (has_id id) replica.pending p.0 p.1)))
              (record { n = n; has = has; at = h.at; here = h.here; asked = h.asked });
          replica = replica;
          live = record { n = n; has = has; live = is };
          proposal = p.0;
          pending = p.1;
          asks = refl;
        }
    by_seat range (Removed applied) is l = absurd (omega (arith, l))

pub pending_there : (nodes : ℕ) (w : World) → IsReached nodes w → (id : CmdId) → outcome_of w id ≡ Some outcomes.Pending → IsPendingThere w id
pending_there nodes w r id e =
    let x : OutcomeFrom w id outcomes.Pending = outcome_from w id outcomes.Pending e in
    let t : ToldBy w id x.node x.n outcomes.Pending = told_by w id x.node x.n outcomes.Pending x.at in
    by_answer x t (answered_entry nodes w r id x.node t.place t.e (record { n = x.n; has = x.has; here = t.here }) t.asks)
  where
    refused_no : (why : Refusal) → outcomes.Refused why ≡ outcomes.Pending → ⊥
    refused_no why e' = cc

    by_answer : (x : OutcomeFrom w id outcomes.Pending) (t : ToldBy w id x.node x.n outcomes.Pending) → (t.e.answer ≡ answers.Admitted) ⊎ ((why : Refusal) × (t.e.answer ≡ answers.Refused why)) → IsPendingThere w id
    by_answer x t (inl granted) =
        let grant : is_grant_of id t.e ≡ true = and_from (is_admission_of id t.e) (is_granted t.e.answer) t.asks (ap is_granted granted) in
        held_there nodes w r id x.node x.n x.has (count_above (is_grant_of id) x.n.journal t.place t.e t.here grant)
        (unlisted nodes w r id x.node x.n x.has (sym (ap (outcome_by x.n id) granted) ∙ t.by))
    by_answer x t (inr why) = absurd (refused_no why.0 (sym (ap (outcome_by x.n id) why.1) ∙ t.by))

-- the outcome of an attempt is that of the node that was asked
pub any_place : {X : Type 0} (test : X → Bool) (xs : List X) → list_any test xs ≡ true → (place : ℕ) × (x : X) × (slice_get xs place ≡ Some x) × (test x ≡ true)
any_place test [] e = absurd cc
any_place {X} test (x ∷ xs) e = go (test x) refl e (any_place test xs) where
  go : (b : Bool) → test x ≡ b → (b || list_any test xs) ≡ true → (list_any test xs ≡ true → (place : ℕ) × (y : X) × (slice_get xs place ≡ Some y) × (test y ≡ true))
      → (place : ℕ) × (y : X) × (slice_get (x ∷ xs) place ≡ Some y) × (test y ≡ true)
  go true is e' ih = (0, x, refl, is)
  go false is e' ih = let k = ih e' in (suc k.0, k.1, k.2, k.3)

pub found_any : {X : Type 0} (test : X → Bool) (xs : List X) (i : ℕ) (x : X) → slice_get xs i ≡ Some x → test x ≡ true → (y : X) × (find test xs ≡ Some y)
found_any test [] i x at is = absurd cc
found_any {X} test (z ∷ xs) zero x at is = first (test z) (ap test (some_is z x at) ∙ is) where
  some_is : (a b : X) → ◌≡◌ {A = Option X} (Some a) (Some b) → a ≡ b
  some_is a b e' = cc

  first : (b : Bool) → b ≡ true → (y : X) × (cond b (Some z) (find test xs) ≡ Some y)
  first true e = (z, refl)
  first false e = absurd cc
found_any {X} test (z ∷ xs) (suc i) x at is = go (test z) (found_any test xs i x at is) where
  go : (b : Bool) → (y : X) × (find test xs ≡ Some y) → (y : X) × (cond b (Some z) (find test xs) ≡ Some y)
  go true h = (z, refl)
  go false h = h

pub outcome_here : (w : World) → AskedOnce w → (id : CmdId) (node : ℕ) (n : Node) → node_of w node ≡ Some n → asked_at id n ≡ true → outcome_of w id ≡ outcome_at id n
outcome_here w once id zero n has asked = absurd (none_some has)
  where
    none_some : ◌≡◌ {A = Option Node} None (Some n) → ⊥
    none_some e = cc
outcome_here w once id (suc place) n has asked =
    let f = found_any (asked_at id) w place n has asked in
    let at = found_place (asked_at id) w f.0 f.1 in
    let first = any_place (is_admission_of id) f.0.journal (found_passes (asked_at id) w f.0 f.1) in
    let this = any_place (is_admission_of id) n.journal asked in
    let same = once id (suc place) this.0 this.1 (record { n = n; has = has; here = this.2 }) this.3 (suc at.0) first.0 first.1 (record { n = f.0; has = at.1; here = first.2 }) first.3 in
    ap (option_and_then (outcome_at id)) f.1
    ∙ ap (outcome_at id) (one_node w (suc place) f.0 n (subst (λ k. node_of w k ≡ Some f.0) same.0 at.1) has)

-- what is pending was admitted, and is told so
pub pending_is_told : (nodes : ℕ) (w : World) → IsReached nodes w → (node range : ℕ) (replica : Replica) → IsLiveAt w node range replica → (id : CmdId) (p : Proposal) → proposal_of id replica.pending ≡ Some p
    → IsHeldThere w id node range p
pending_is_told nodes w r node range replica live id p found = by_answer (found_first) where
  n : Node
  n = live.n

  h : IsFrom n range p
  h = all_found (IsFrom n range) (has_id id) replica.pending p (subst (λ s. AllByRecursion (IsFrom n range) (pending_at s)) live.live (all_from nodes w r node n live.has range)) found

  same : id ≡ p.id
  same = same_is id p.id (found_passes (has_id id) replica.pending p found)

  admitted : IsAdmitted w id node h.place range p.request
  admitted = subst (λ i. IsAdmitted w i node h.place range p.request) (sym same) (record { n = n; has = live.has; at = h.at; here = h.here; asked = h.asked })

  granted_entry : JournalEntry
  granted_entry = record { event = past.Admit range p.id h.at; answer = answers.Admitted }

  asks : is_admission_of id granted_entry ≡ true
  asks = ap (λ i. same_id i id) (sym same) ∙ same_itself id

  none_told : times_told id n ≡ 0
  none_told =
      let k = balanced nodes w r id node n live.has in
      let once = total_once w (balanced nodes w r) (times_at_most_once nodes w r) node n live.has id in
      let le = seat_le (in_seat id) n.seats range refl in
      let here : in_seat id (seat n range) ≡ pending_of id replica.pending = ap (in_seat id) live.live in
      let some : 0 < pending_of id replica.pending = count_found id replica.pending p found in
      omega (arith, k, once, le, here, some)
    where
      count_found : (id : CmdId) (ps : List Proposal) (p : Proposal) → proposal_of id ps ≡ Some p → 0 < pending_of id ps
      count_found id ps p e = let k = found_place (has_id id) ps p e in count_above (has_id id) ps k.0 p k.1 (found_passes (has_id id) ps p e)

  found_first : (e : JournalEntry) × (find (is_admission_of id) n.journal ≡ Some e)
  found_first = found_any (is_admission_of id) n.journal h.place granted_entry h.here asks

  is_here : IsWritten w node h.place granted_entry
  is_here = record { n = n; has = live.has; here = h.here }

  some_entry : (a b : JournalEntry) → ◌≡◌ {A = Option JournalEntry} (Some a) (Some b) → a ≡ b
  some_entry a b e = cc

  by_answer : (e : JournalEntry) × (find (is_admission_of id) n.journal ≡ Some e) → IsHeldThere w id node range p
  by_answer f =
      let at = found_place (is_admission_of id) n.journal f.0 f.1 in
      let first = asked_once nodes w r id node h.place granted_entry is_here asks node at.0 f.0 (record { n = n; has = live.has; here = at.1 }) (found_passes (is_admission_of id) n.journal f.0 f.1) in
      let entry : f.0 ≡ granted_entry = some_entry f.0 granted_entry (sym (subst (λ k. slice_get n.journal k ≡ Some f.0) first.1 at.1) ∙ h.here) in
      record {
        place = h.place;
        admitted = admitted;
        told = outcome_here w (asked_once nodes w r) id node n live.has (any_at (is_admission_of id) n.journal h.place granted_entry h.here asks)
            ∙ ap (option_map (λ (e : JournalEntry). outcome_by n id e.answer)) (f.1 ∙ ap Some entry)
            ∙ ap (λ z. Some (option_map_or (λ (o : Outcome). o) (option_map (λ (x : Ended). x.outcome) z) outcomes.Pending)) (none_listed (find (λ (e : Ended). same_id e.id id) n.outcomes) refl);
        unended = by_times (times_ended w id) refl;
      }
    where
      none_listed : (o : Option Ended) → find (λ (e : Ended). same_id e.id id) n.outcomes ≡ o → find (λ (e : Ended). same_id e.id id) n.outcomes ≡ None
      none_listed None is = is
      none_listed (Some e) is =
          let k = found_place (λ (x : Ended). same_id x.id id) n.outcomes e is in
          let some : 0 < times_told id n = count_above (λ (x : Ended). same_id x.id id) n.outcomes k.0 e k.1 (found_passes (λ (x : Ended). same_id x.id id) n.outcomes e is) in
          absurd (omega (arith, some, none_told))

      by_times : (k : ℕ) → times_ended w id ≡ k → k ≡ 0
      by_times zero is = refl
      by_times (suc k) is =
          let x = sum_some (times_told id) w (omega (arith, is)) in
          let b = balanced nodes w r id (suc x.0) x.1 x.2 in
          let told = x.3 in
          let e = count_some (is_grant_of id) x.1.journal (omega (arith, b, told)) in
          let there = asked_once nodes w r id node h.place granted_entry is_here asks (suc x.0) e.0 e.1 (record { n = x.1; has = x.2; here = e.2 }) (and_parts (is_admission_of id e.1) (is_granted e.1.answer) e.3).0 in
          let this : x.1 ≡ n = one_node w node x.1 n (subst (λ z. node_of w z ≡ Some x.1) there.0 x.2) live.has in
          let same_told : times_told id x.1 ≡ times_told id n = ap (times_told id) this in
          absurd (omega (arith, told, same_told, none_told))

-- no two pending proposals of a replica have one id
pub pending_once : (nodes : ℕ) (w : World) → IsReached nodes w → (node range : ℕ) (replica : Replica) → IsLiveAt w node range replica → (id : CmdId) → pending_of id replica.pending ≤ 1
pending_once nodes w r node range replica live id = once_in live.n range replica (total_once w (balanced nodes w r) (times_at_most_once nodes w r) node live.n live.has) live.live id

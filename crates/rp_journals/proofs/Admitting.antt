-- How an attempt was admitted.
use Rattle.std.proofs.Common.{◌≡◌, ℕ, ◌<◌, Bool, true, false, cond, Option, Some, Result, Ok, Err, List, [], length, refl, sym, ap, subst, ◌∙◌, eqb-true}
use Rattle.std.specs.Prelude.{slice_get, nat_lt}
use Rattle.std.proofs.lemmas.Bool.{and_parts, ltb-true}
use Rattle.rp_base.specs.declared.ids.CmdId.{CmdId}
use Rattle.rp_base.specs.declared.items.Item.{Item}
use Rattle.rp_request.specs.Applied.{AppliedState}
use Rattle.rp_request.specs.Covers.{spans_of, in_bounds}
use Rattle.rp_request.specs.Evaluations.{evaluated}
use Rattle.rp_request.specs.declared.evaluations.Evaluated.{Evaluated}
use Rattle.rp_request.specs.declared.outcomes.Refusal.{Refusal}
use Rattle.rp_request.specs.declared.outcomes.Refusal.TheVariants.{NotLeaseHolder, RangeMismatch, NoReplica}
use Rattle.rp_request.specs.declared.requests.Request.{Request}
use Rattle.rp_latch.specs.Holds.{answer}
use Rattle.rp_events.specs.declared.answers.EventAnswer.TheVariants as answers
use Rattle.rp_events.specs.declared.journals.JournalEntry.{JournalEntry}
use Rattle.rp_events.specs.declared.journals.PastEvent.TheVariants as past
use Rattle.rp_events.specs.declared.node_events.Event.{Event}
use Rattle.rp_events.specs.declared.node_events.Event.TheVariants as events
use Rattle.rp_events.specs.declared.replica_events.ReplicaEvent.TheVariants as at_replica
use Rattle.rp_events.specs.Replicas.{Replica, lease_of, holds_lease}
use Rattle.rp_events.specs.Admissions.{unlatched, may_admit, guarded, admitted_by}
use Rattle.rp_events.specs.Nodes.{Node, Status, Absent, Live, Removed, seat}
use Rattle.rp_events.specs.NodeEvents.{by_status, step, past_of, with_request}
use Rattle.rp_events.specs.Worlds.{World, taken_in}
use Rattle.rp_events.specs.Lawful.{IsReached}
use Rattle.rp_events.specs.Lists.{IsAdmitted, IsAdmittedUnder}
use Rattle.rp_journals.specs.Growth.{Grows}
use Rattle.rp_journals.specs.Entries.{WasWritten}
use Rattle.rp_journals.specs.Asked.{WasAdmitted}
use Rattle.rp_journals.proofs.Lists.{get_begins, get_end}
use Rattle.rp_journals.proofs.Growing.{status_grows}
use Rattle.rp_journals.proofs.Writing.{written}
use Rattle.rp_journals.proofs.Asking.{asked_once}
use Rattle.rp_base.proofs.IdLaws.{same_itself}

-- an event of a node whose entry is a granted admission
pub record Granted (n : Node) (ev : Event AppliedState) (range : ℕ) (id : CmdId) (at : ℕ) : Type 0 where
  pub request : Request
  pub is : ev ≡ events.Admit range id request
  pub place : at ≡ length n.requests
  pub replica : Replica
  pub live : seat n range ≡ Live replica
  pub evaluation : Evaluated
  pub passed : guarded replica request ≡ Ok evaluation

abbrev granted_entry : (range : ℕ) → CmdId → (at : ℕ) → JournalEntry
granted_entry range id at = record { event = past.Admit range id at; answer = answers.Admitted }

-- the two parts of an entry
event_part : (a b : JournalEntry) → a ≡ b → a.event ≡ b.event
event_part a b e = ap (λ (z : JournalEntry). z.event) e

answer_part : (a b : JournalEntry) → a ≡ b → a.answer ≡ b.answer
answer_part a b e = ap (λ (z : JournalEntry). z.answer) e

module _ (n : Node) (taken : List Item) where
  refused_no : (why : Refusal) → answers.Refused why ≡ answers.Admitted → ⊥
  refused_no why e = cc

  by_seat : (range : ℕ) (id : CmdId) (request : Request) (status : Status) → seat n range ≡ status
      → (by_status (with_request n request) range (at_replica.Admit id request) [] status).answer ≡ answers.Admitted
      → (r : Replica) × (e : Evaluated) × (seat n range ≡ Live r) × (guarded r request ≡ Ok e)
  by_seat range id request Absent is a = absurd (refused_no NoReplica a)
  by_seat range id request (Live r) is a = by_guard (guarded r request) refl a where
    by_guard : (g : Result Evaluated Refusal) → guarded r request ≡ g → (admitted_by r id request g).answer ≡ answers.Admitted
        → (r : Replica) × (e : Evaluated) × (seat n range ≡ Live r) × (guarded r request ≡ Ok e)
    by_guard (Ok e) g a' = (r, e, is, g)
    by_guard (Err why) g a' = absurd (refused_no why a')
  by_seat range id request (Removed applied) is a = absurd (refused_no NoReplica a)

  admit_parts : (range r : ℕ) (id i : CmdId) (place p : ℕ) → past.Admit range id place ≡ past.Admit r i p → (range ≡ r) × (id ≡ i) × (place ≡ p)
  admit_parts range r id i place p e = (cc, cc, cc)

  pub grants : (ev : Event AppliedState) (range : ℕ) (id : CmdId) (at : ℕ) → past_of n ev taken ≡ past.Admit range id at → (step n ev taken).answer ≡ answers.Admitted → Granted n ev range id at
  grants (events.Admit r i request) range id at e a =
      let parts = admit_parts r range i id (length n.requests) at e in
      let x = by_seat r i request (seat n r) refl a in
      record {
        request = request;
        is = ap (λ k. events.Admit k i request) parts.0 ∙ ap (λ k. events.Admit range k request) parts.1;
        place = sym parts.2;
        replica = x.0;
        live = ap (seat n) (sym parts.0) ∙ x.2;
        evaluation = x.1;
        passed = x.3;
      }
  grants (events.Ask r) range id at e a = absurd cc
  grants (events.Transfer r to) range id at e a = absurd cc
  grants (events.Collect r) range id at e a = absurd cc
  grants (events.Flush r) range id at e a = absurd cc
  grants events.Tick range id at e a = absurd cc
  grants (events.Deliver from r number m) range id at e a = absurd cc
  grants (events.Apply r) range id at e a = absurd cc
  grants (events.Cut r) range id at e a = absurd cc
  grants (events.Remove r) range id at e a = absurd cc
  grants (events.Peek r key) range id at e a = absurd cc
  grants events.Restart range id at e a = absurd cc
  grants events.Round range id at e a = absurd cc

some_request : (a b : Request) → ◌≡◌ {A = Option Request} (Some a) (Some b) → a ≡ b
some_request a b e = cc

-- the list of requests has that of an admission
pub asked_here : (n : Node) (range : ℕ) (id : CmdId) (request : Request) (taken : List Item) → slice_get (step n (events.Admit range id request) taken).node.requests (length n.requests) ≡ Some request
asked_here n range id request taken =
    let asked : Node = with_request n request in
    let grown = status_grows asked range (at_replica.Admit id request) [] (seat n range) in
    get_begins asked.requests _ grown.requests (length n.requests) request (get_end n.requests request [])

pub was_admitted : (nodes : ℕ) (w : World) → IsReached nodes w → (id : CmdId) (node place range : ℕ) (request : Request) → IsAdmitted w id node place range request → WasAdmitted w id node place range request
was_admitted nodes w reached id node place range request is = by_event (grants k.n taken k.event range id is.at (sym (event_part _ _ k.entry)) (sym (answer_part _ _ k.entry))) where
  e : JournalEntry
  e = granted_entry range id is.at

  k : WasWritten nodes w node place e
  k = written nodes w reached node place e (record { n = is.n; has = is.has; here = is.here })

  taken : List Item
  taken = taken_in k.what

  by_event : Granted k.n k.event range id is.at → WasAdmitted w id node place range request
  by_event g = record {
    only = asked_once nodes w reached id node place e (record { n = is.n; has = is.has; here = is.here }) (same_itself id);
    replica = g.replica;
    stood = record { n = is.n; has = is.has; stood = ap (λ (z : Node). seat z range) (k.stood is.n is.has) ∙ g.live };
    evaluation = g.evaluation;
    passed = subst (λ q. guarded g.replica q ≡ Ok g.evaluation) same g.passed;
  } where
    here : slice_get (step k.n k.event taken).node.requests is.at ≡ Some g.request
    here = ap (slice_get (step k.n k.event taken).node.requests) g.place
        ∙ subst (λ ev. slice_get (step k.n ev taken).node.requests (length k.n.requests) ≡ Some g.request) (sym g.is) (asked_here k.n range id g.request taken)

    now : Grows (step k.n k.event taken).node is.n
    now = k.grown is.n is.has

    same : g.request ≡ request
    same = some_request g.request request (sym (get_begins (step k.n k.event taken).node.requests is.n.requests now.requests is.at g.request here) ∙ is.asked)

-- what the guards let through holds the lease, under a sequence above the barrier
pub passed_under : (r : Replica) (request : Request) (e : Evaluated) → guarded r request ≡ Ok e → ((lease_of r).holder ≡ r.raft.head.node) × (r.barrier < (lease_of r).seq)
passed_under r request e is = by_test (may_admit r) refl is where
  by_test : (b : Bool) → may_admit r ≡ b
      → cond b (cond (in_bounds r.applied.state.desc request) (unlatched (answer r.latches (spans_of request)) (evaluated r.applied.state.table r.applied.state.desc request)) (Err (RangeMismatch r.applied.state.desc))) (Err (NotLeaseHolder (lease_of r))) ≡ Ok e
      → ((lease_of r).holder ≡ r.raft.head.node) × (r.barrier < (lease_of r).seq)
  by_test true may is' = let parts = and_parts (holds_lease r) (nat_lt r.barrier (lease_of r).seq) may in (eqb-true (lease_of r).holder r.raft.head.node parts.0, ltb-true r.barrier (lease_of r).seq parts.1)
  by_test false may is' = absurd cc

pub admitted_under : (w : World) (id : CmdId) (node place range : ℕ) (request : Request) → IsAdmitted w id node place range request → (a : WasAdmitted w id node place range request)
    → a.replica.raft.head.node ≡ node → IsAdmittedUnder w id range request (lease_of a.replica).seq
admitted_under w id node place range request is a number =
    let under = passed_under a.replica request a.evaluation a.passed in
    record {
      node = node;
      place = place;
      admitted = is;
      only = a.only;
      replica = a.replica;
      stood = a.stood;
      holds = under.0 ∙ number;
      under = refl;
      passed = under.1;
    }

-- An admission that is granted is one of the range machine, and its range stands behind it.
use Rattle.std.proofs.Common.{◌≡◌, ℕ, ◌<◌, Bool, true, false, cond, ltb, List, [], ◌∷◌, ◌++◌, map, Option, None, Some, Result, Ok, Err, is_some, IsFalse, refl, sym, ap, subst, ◌∙◌, eqb-true, ltb-true}
use Rattle.std.specs.Prelude.{◌&&◌}
use Rattle.rp_base.proofs.Elements.{found_some}
use Rattle.rp_base.proofs.IdLaws.{same_itself, apart_not_same, not_same_apart}
use Rattle.rp_base.specs.Ids.{same_id}
use Rattle.rp_base.specs.Spans.{span_list, meets_one, any_meet}
use Rattle.rp_base.specs.declared.ids.CmdId.{CmdId}
use Rattle.rp_base.specs.declared.spans.Span.{Span}
use Rattle.rp_base.specs.declared.spans.Spans.{Spans}
use Rattle.rp_latch.specs.Holds.{met_in, held_or, conflict, refused_by, answer}
use Rattle.rp_latch.specs.declared.holds.Held.{Held}
use Rattle.rp_request.specs.Applied.{AppliedState}
use Rattle.rp_request.specs.Covers.{covers, spans_of, in_bounds, HasKeys, Apart}
use Rattle.rp_request.specs.Evaluations.{evaluated}
use Rattle.rp_request.specs.declared.evaluations.Evaluated.{Evaluated}
use Rattle.rp_request.specs.declared.outcomes.Outcome.{Outcome}
use Rattle.rp_request.specs.declared.outcomes.Outcome.TheVariants as outcomes
use Rattle.rp_request.specs.declared.outcomes.Refusal.TheVariants.{NotLeaseHolder, RangeMismatch}
use Rattle.rp_request.specs.declared.requests.Request.{Request}
use Rattle.rp_request.proofs.Covering.{apart}
use Rattle.rp_pending.specs.declared.proposals.Proposal.{Proposal}
use Rattle.rp_pending.specs.declared.proposals.Stage as places
use Rattle.rp_pending.specs.declared.proposals.Stage.TheVariants as stages
use Rattle.rp_pending.specs.Proposals.{has_id, proposal_of}
use Rattle.rp_raftsafe.specs.World as raft
use Rattle.rp_raftsafe.specs.World.{IsRange}
use Rattle.rp_raftsafe.specs.Safety.{IsLive}
use Rattle.rp_raftsafe.proofs.Refine.{StatusOk}
use Rattle.rp_raftsafe.proofs.Worlds.{after_start}
use Rattle.rp_rangesafe.specs.Attempts.{Body, Stage, Unborn, Waiting, Proposed, Success, Refused, Overtaken, Removed, Restarted, Attempt, IsBorn, IsPending}
use Rattle.rp_rangesafe.specs.World as machine
use Rattle.rp_rangesafe.specs.World.{here, IsEvaluated, MayAdmit, admitted}
use Rattle.rp_rangesafe.proofs.Tables.{at_attempt}
use Rattle.rp_events.specs.Admissions.{unlatched, may_admit, guarded, proposal, with_proposal}
use Rattle.rp_events.specs.Replicas.{Replica, lease_of, holds_lease}
use Rattle.rp_seats.specs.Standing.{hold_of, HasPlace, IsToldAs, TellsOf, HasNone, AreDistinct, SeatOk}
use Rattle.rp_events.specs.Nodes.{Live}
use Rattle.rp_seats.specs.Turned.{HaveKeys}

-- Raft's replica at a node has the node's number
pub numbered : (g : raft.Range AppliedState) → IsRange g → (events : List raft.Event) (node : ℕ) → 0 < node → (c : raft.Replica AppliedState) → IsLive (raft.world_after g events) node c → c.raft.head.node ≡ node
numbered g is events node above c live =
    let a = after_start g is events in
    (subst (StatusOk g a.to node) live (a.ok.sites node above).status).node

-- no latch meets what is asked, where it is granted
clear : (ps : List Proposal) (asked : Spans) (q : CmdId) (p : Proposal) → conflict (map hold_of ps) asked ≡ None → proposal_of q ps ≡ Some p → any_meet (spans_of p.request) asked ≡ false
clear [] asked q p free found = absurd cc
clear (x ∷ ps) asked q p free found = go (clear ps asked q p) (met_in (spans_of x.request) asked) refl free (has_id q x) found where
  some_is : (a b : Proposal) → ◌≡◌ {A = Option Proposal} (Some a) (Some b) → a ≡ b
  some_is a b e = cc

  go : (conflict (map hold_of ps) asked ≡ None → proposal_of q ps ≡ Some p → any_meet (spans_of p.request) asked ≡ false) → (o : Option Span) → met_in (spans_of x.request) asked ≡ o
      → held_or x.id o (conflict (map hold_of ps) asked) ≡ None → (b : Bool) → cond b (Some x) (proposal_of q ps) ≡ Some p → any_meet (spans_of p.request) asked ≡ false
  go ih (Some s) met k b l = absurd cc
  go ih None met k false l = ih k l
  go ih None met k true l =
      subst (λ (z : Proposal). any_meet (spans_of z.request) asked ≡ false) (some_is x p l)
      (sym (found_some (meets_one asked) (span_list (spans_of x.request))) ∙ ap is_some met)

granted : (o : Option Held) → refused_by o ≡ Ok tt → o ≡ None
granted None e = refl
granted (Some held) e = absurd cc

apart_back : (p r : ℕ → Bool) → Apart p r → Apart r p
apart_back p r h key t = go (p key) refl where
  go : (b : Bool) → p key ≡ b → IsFalse (p key)
  go false e = e
  go true e = let no_key = h key e in absurd cc

-- what the guards let through
pub record Passed (r : Replica) (request : Request) (e : Evaluated) : Type 0 where
  pub may : may_admit r ≡ true
  pub bounded : in_bounds r.applied.state.desc request ≡ true
  pub free : answer r.latches (spans_of request) ≡ Ok tt
  pub evaluation : evaluated r.applied.state.table r.applied.state.desc request ≡ Ok e

pub passed : (r : Replica) (request : Request) (e : Evaluated) → guarded r request ≡ Ok e → Passed r request e
passed r request e h = go (may_admit r) refl (in_bounds r.applied.state.desc request) refl (answer r.latches (spans_of request)) refl h where
  go : (t : Bool) → may_admit r ≡ t → (b : Bool) → in_bounds r.applied.state.desc request ≡ b
      → (l : Result (Unit {0}) Held) → answer r.latches (spans_of request) ≡ l
      → cond t (cond b (unlatched l (evaluated r.applied.state.table r.applied.state.desc request)) (Err (RangeMismatch r.applied.state.desc))) (Err (NotLeaseHolder (lease_of r))) ≡ Ok e
      → Passed r request e
  go false ht b hb l hl k = absurd cc
  go true ht false hb l hl k = absurd cc
  go true ht true hb (Err held) hl k = absurd cc
  go true ht true hb (Ok tt) hl k = record { may = ht; bounded = hb; free = hl; evaluation = k }

both_true : (b c : Bool) → b && c ≡ true → (b ≡ true) × (c ≡ true)
both_true true c e = (refl, e)
both_true false c e = absurd cc

-- an ended attempt is not pending, and one that was not made has no proposal
ended_not_pending : (s : Stage) (told : Option Outcome) → IsToldAs s told → IsPending s → ⊥
ended_not_pending Unborn told h k = h
ended_not_pending Waiting told h k = h
ended_not_pending (Proposed own) told h k = h
ended_not_pending (Success reply) told h k = k
ended_not_pending Refused told h k = k
ended_not_pending (Overtaken own passed) told h k = k
ended_not_pending (Removed own) told h k = k
ended_not_pending (Restarted own) told h k = k

pending_made : (s : Stage) → IsPending s → IsBorn s
pending_made Unborn k = k
pending_made Waiting k = tt
pending_made (Proposed own) k = tt
pending_made (Success reply) k = tt
pending_made Refused k = tt
pending_made (Overtaken own passed) k = tt
pending_made (Removed own) k = tt
pending_made (Restarted own) k = tt

pending_born : (s : Stage) → IsPending s → s ≡ Unborn → ⊥
pending_born Unborn k e = k
pending_born Waiting k e = cc
pending_born (Proposed own) k e = cc
pending_born (Success reply) k e = k
pending_born Refused k e = k
pending_born (Overtaken own passed) k e = k
pending_born (Removed own) k e = k
pending_born (Restarted own) k e = k

place_pending : (s : places.Stage) (max : ℕ) (a : Attempt) → HasPlace s max a → IsPending a.stage
place_pending stages.Waiting max a h = subst IsPending (sym h) tt
place_pending stages.Proposed max a h = subst IsPending (sym h.0) tt

-- a proposal that is added behind
found_front : (q : CmdId) (ps qs : List Proposal) (p : Proposal) → proposal_of q ps ≡ Some p → proposal_of q (ps ++ qs) ≡ Some p
found_front q [] qs p e = absurd cc
found_front q (x ∷ ps) qs p e = go (found_front q ps qs p) (has_id q x) e where
  go : (proposal_of q ps ≡ Some p → proposal_of q (ps ++ qs) ≡ Some p) → (b : Bool) → cond b (Some x) (proposal_of q ps) ≡ Some p → cond b (Some x) (proposal_of q (ps ++ qs)) ≡ Some p
  go ih true e' = e'
  go ih false e' = ih e'

found_back : (q : CmdId) (ps qs : List Proposal) → proposal_of q ps ≡ None → proposal_of q (ps ++ qs) ≡ proposal_of q qs
found_back q [] qs e = refl
found_back q (x ∷ ps) qs e = go (found_back q ps qs) (has_id q x) e where
  go : (proposal_of q ps ≡ None → proposal_of q (ps ++ qs) ≡ proposal_of q qs) → (b : Bool) → cond b (Some x) (proposal_of q ps) ≡ None → cond b (Some x) (proposal_of q (ps ++ qs)) ≡ proposal_of q qs
  go ih true e' = absurd cc
  go ih false e' = ih e'

none_has : (id : CmdId) (ps : List Proposal) → proposal_of id ps ≡ None → HasNone id ps
none_has id [] e = tt
none_has id (x ∷ ps) e = go (none_has id ps) (has_id id x) refl e where
  go : (proposal_of id ps ≡ None → HasNone id ps) → (b : Bool) → has_id id x ≡ b → cond b (Some x) (proposal_of id ps) ≡ None → HasNone id (x ∷ ps)
  go ih true is e' = absurd cc
  go ih false is e' = ((λ same. not_same_apart id x.id is same), ih e')

none_added : (id : CmdId) (p : Proposal) (ps : List Proposal) → (id ≡ p.id → ⊥) → HasNone id ps → HasNone id (ps ++ p ∷ [])
none_added id p [] ne h = (ne, tt)
none_added id p (x ∷ ps) ne h = (h.0, none_added id p ps ne h.1)

distinct_added : (p : Proposal) (ps : List Proposal) → HasNone p.id ps → AreDistinct ps → AreDistinct (ps ++ p ∷ [])
distinct_added p [] h d = (tt, tt)
distinct_added p (x ∷ ps) h d = (none_added x.id p ps (λ e. h.0 (sym e)) d.0, distinct_added p ps h.1 d.1)

map_added : (p : Proposal) (ps : List Proposal) → map hold_of (ps ++ p ∷ []) ≡ map hold_of ps ++ hold_of p ∷ []
map_added p [] = refl
map_added p (x ∷ ps) = ap (λ hs. hold_of x ∷ hs) (map_added p ps)

module _ (node range : ℕ) (h : machine.World) (told : CmdId → Option Outcome) (r : Replica) (s : SeatOk h node range (Live r) told) (state : here h node ≡ r.applied.state)
    (number : r.raft.head.node ≡ node) (keys : HaveKeys r.pending) (id : CmdId) (request : Request) (has_keys : HasKeys request) (unborn : (h.attempt id).stage ≡ Unborn)
    (e : Evaluated) (passes : guarded r request ≡ Ok e) where
  ok : Passed r request e
  ok = passed r request e passes

  abbrev body : Body
  body = record { request = request; batch = e.batch; reply = e.reply }

  abbrev made : Proposal
  made = proposal id request e (lease_of r).seq

  apart_from : (q : CmdId) → IsPending (h.attempt q).stage → (h.attempt q).node ≡ node → Apart (covers request) (covers (h.attempt q).body.request)
  apart_from q pending at = go (proposal_of q r.pending) refl (s.pending.tells q) where
    go : (o : Option Proposal) → proposal_of q r.pending ≡ o → TellsOf node (h.attempt q) o (told q) → Apart (covers request) (covers (h.attempt q).body.request)
    go None found tells = absurd (ended_not_pending (h.attempt q).stage (told q) (tells (pending_made (h.attempt q).stage pending, at)) pending)
    go (Some p) found tells =
        subst (λ (b : Body). Apart (covers request) (covers b.request)) (sym tells.body)
        (apart_back (covers p.request) (covers request) (apart p.request request (keys q p found) has_keys
        (clear r.pending (spans_of request) q p (granted (conflict (map hold_of r.pending) (spans_of request)) (ap (λ l. answer l (spans_of request)) (sym s.pending.held) ∙ ok.free)) found)))

  pub lawful : MayAdmit h id node body
  lawful =
      let both = both_true (holds_lease r) (ltb r.barrier (lease_of r).seq) ok.may in
      let above : r.barrier < (lease_of r).seq = ltb-true r.barrier (lease_of r).seq both.1 in
      record {
        new = unborn;
        live = s.stands.1;
        holds = ap (λ (t : AppliedState). t.lease.holder) state ∙ eqb-true (lease_of r).holder r.raft.head.node both.0 ∙ number;
        passed = subst (λ i. i < (here h node).lease.seq) (sym s.stands.2) (subst (λ (t : AppliedState). r.barrier < t.lease.seq) (sym state) above);
        evaluates = subst (λ t. IsEvaluated t body) (sym state) (record { bounded = ok.bounded; evaluation = ok.evaluation });
        latched = apart_from;
      }

  none_before : proposal_of id r.pending ≡ None
  none_before = go (proposal_of id r.pending) refl (s.pending.tells id) where
    go : (o : Option Proposal) → proposal_of id r.pending ≡ o → TellsOf node (h.attempt id) o (told id) → o ≡ None
    go None found tells = refl
    go (Some p) found tells = absurd (pending_born (h.attempt id).stage (place_pending p.stage p.max (h.attempt id) tells.place) unborn)

  abbrev now : CmdId → Option Outcome
  now q = cond (same_id q id) (Some outcomes.Pending) (told q)

  pub admitted_seat : SeatOk (machine.happens h (machine.Admit id node body)) node range (Live (with_proposal r made)) now
  admitted_seat = record {
    stands = (s.stands.0, s.stands.1, s.stands.2);
    pending = record {
      tells = at_attempt (λ q a. TellsOf node a (proposal_of q (r.pending ++ made ∷ [])) (now q)) h.attempt id (admitted h node body)
          (subst (λ o. TellsOf node (admitted h node body) o (now id)) (sym (found_back id r.pending (made ∷ []) none_before ∙ ap (λ b. cond b (Some made) None) (same_itself id)))
          (record {
            made_at = refl;
            seq = ap (λ (t : AppliedState). t.lease.seq) state;
            body = refl;
            place = refl;
            pending = ap (λ b. cond b (Some outcomes.Pending) (told id)) (same_itself id);
          }))
          (λ q ne. other q ne (proposal_of q r.pending) refl (s.pending.tells q));
      distinct = distinct_added made r.pending (none_has id r.pending none_before) s.pending.distinct;
      held = ap (λ l. l ++ hold_of made ∷ []) s.pending.held ∙ sym (map_added made r.pending);
    };
  }
    where
      other : (q : CmdId) → (q ≡ id → ⊥) → (o : Option Proposal) → proposal_of q r.pending ≡ o → TellsOf node (h.attempt q) o (told q) → TellsOf node (h.attempt q) (proposal_of q (r.pending ++ made ∷ [])) (now q)
      other q ne o found tells =
          subst (λ t. TellsOf node (h.attempt q) (proposal_of q (r.pending ++ made ∷ [])) t) (sym (ap (λ b. cond b (Some outcomes.Pending) (told q)) (apart_not_same q id ne)))
          (subst (λ z. TellsOf node (h.attempt q) z (told q)) (sym (same_found o found)) tells)
        where
          same_found : (z : Option Proposal) → proposal_of q r.pending ≡ z → proposal_of q (r.pending ++ made ∷ []) ≡ z
          same_found None k = found_back q r.pending (made ∷ []) k ∙ ap (λ b. cond b (Some made) None) (apart_not_same q id ne)
          same_found (Some p) k = found_front q r.pending (made ∷ []) p k

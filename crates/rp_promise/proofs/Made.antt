-- An attempt that the machine has is one that a journal admitted: in the first world, and behind each scene.
use Rattle.std.proofs.Common.{◌≡◌, ℕ, zero, suc, ◌<◌, ◌≤◌, Bool, true, false, cond, ◌⊎◌, inl, inr, ⊎_elim, Option, None, Some, Result, Ok, Err, List, [], ◌∷◌, length, refl, sym, ap, subst, ◌∙◌, arith}
use Rattle.std.proofs.lemmas.Option.{none-some}
use Rattle.std.specs.Prelude.{slice_get}
use Rattle.std.specs.List.{find}
use Rattle.std.specs.Option.{option_map, option_or}
use Rattle.std.proofs.lemmas.Bool.{cases_eq}
use Rattle.std.proofs.lemmas.List.Folds.{find-append}
use Rattle.std.proofs.lemmas.Option.{slice_get_within}
use Rattle.rp_base.specs.declared.ids.CmdId.{CmdId}
use Rattle.rp_base.specs.declared.items.Item.{Item}
use Rattle.rp_base.proofs.IdLaws.{same_itself}
use Rattle.rp_request.specs.Applied.{AppliedState}
use Rattle.rp_request.specs.declared.evaluations.Evaluated.{Evaluated}
use Rattle.rp_request.specs.declared.outcomes.Outcome.{Outcome}
use Rattle.rp_request.specs.declared.outcomes.Outcome.TheVariants as outcomes
use Rattle.rp_request.specs.declared.outcomes.Refusal.{Refusal}
use Rattle.rp_request.specs.declared.outcomes.Refusal.TheVariants.{NoReplica}
use Rattle.rp_request.specs.declared.requests.Request.{Request}
use Rattle.rp_pending.specs.Proposals.{has_id, proposal_of}
use Rattle.rp_pending.specs.declared.proposals.Proposal.{Proposal}
use Rattle.rp_raftsafe.specs.World as raft
use Rattle.rp_raftsafe.specs.World.{world_after}
use Rattle.rp_raftsafe.specs.Safety.{OneList, IsLive}
use Rattle.rp_rangesafe.specs.Attempts.{Stage, Attempt, IsBorn, IsEnded}
use Rattle.rp_rangesafe.specs.Attempts as stages
use Rattle.rp_rangesafe.specs.Ranges.{Ranges, Owner, Nobody, Turned, At, IsMade, AreLater}
use Rattle.rp_rangesafe.proofs.Growth.{Grown}
use Rattle.rp_rangesafe.proofs.Joint.{range_goes_on, owner_stays, one_range}
use Rattle.rp_rangesafe.proofs.Runs.{later_grown}
use Rattle.rp_rangesafe.proofs.Whole.{whole_reached}
use Rattle.rp_events.specs.declared.answers.EventAnswer.{EventAnswer}
use Rattle.rp_events.specs.declared.answers.EventAnswer.TheVariants as answers
use Rattle.rp_events.specs.declared.journals.JournalEntry.{JournalEntry}
use Rattle.rp_events.specs.declared.journals.PastEvent.TheVariants as past
use Rattle.rp_events.specs.declared.node_events.Event.TheVariants as events
use Rattle.rp_events.specs.declared.replica_events.ReplicaEvent.TheVariants as at_replica
use Rattle.rp_events.specs.Replicas.{Replica, lease_of}
use Rattle.rp_events.specs.Admissions.{guarded, proposal, with_proposal, admitted_by}
use Rattle.rp_events.specs.Nodes.{Node, Status, Absent, Live, Removed, seat}
use Rattle.rp_events.specs.NodeEvents.{by_status, after_replica, step, with_request}
use Rattle.rp_events.specs.Worlds.{World, Scene, first_world, node_of, taken_in, event_of, happens, is_admission_of, outcome_by, outcome_at}
use Rattle.rp_events.specs.Lawful.{IsReached, Lawful}
use Rattle.rp_events.specs.Lists.{history_in, IsAdmittedUnder}
use Rattle.rp_journals.specs.Growth.{WorldGrows}
use Rattle.rp_journals.proofs.Growing.{Happened, happened, one_node, scene_grows, reached_later, with_same, with_other}
use Rattle.rp_journals.proofs.Reading.{entry_of, step_journal, reads_back, stands_now}
use Rattle.rp_journals.proofs.Staying.{admitted_stays, stood_stays}
use Rattle.rp_journals.proofs.Asking.{Admitting, admits, asked_once}
use Rattle.rp_journals.proofs.Admitting.{asked_here, passed_under}
use Rattle.rp_journals.proofs.Lists.{get_end}
use Rattle.rp_seats.specs.Views.{core, core_of, range_at}
use Rattle.rp_seats.specs.Standing.{Bound, RangeOk, pending_in, TellsPending, IsToldAs, TellsOf, IsMadeIn, IsOwned}
use Rattle.rp_seats.proofs.Admits.{numbered}
use Rattle.rp_seats.proofs.Nodes.{seat_same, live_within}
use Rattle.rp_seats.proofs.Opens.{first_is}
use Rattle.rp_seats.proofs.Worlds.{site_seen}
use Rattle.rp_promise.specs.Beside.{AreAdmitted}
use Rattle.rp_promise.proofs.Stands.{had_opened}
use Rattle.rp_promise.proofs.Somes.{some_is}

-- what is told of no attempt
untold_stage : (s : Stage) → IsToldAs s None → ⊥
untold_stage stages.Unborn t = t
untold_stage stages.Waiting t = t
untold_stage (stages.Proposed own) t = t
untold_stage (stages.Success reply) t = cc
untold_stage stages.Refused t = let e = t.1 in cc
untold_stage (stages.Overtaken own passed) t = cc
untold_stage (stages.Removed own) t = cc
untold_stage (stages.Restarted own) t = cc

abbrev IsUnrefused : Outcome → Type 0
IsUnrefused (outcomes.Success reply) = Unit {0}
IsUnrefused (outcomes.Refused why) = ⊥
IsUnrefused (outcomes.Ambiguous why) = Unit {0}
IsUnrefused outcomes.Pending = Unit {0}

record ToldSo (told : Option Outcome) : Type 0 where
  outcome : Outcome
  is : told ≡ Some outcome
  unrefused : IsUnrefused outcome

told_some : (s : Stage) (told : Option Outcome) → (s ≡ stages.Refused → ⊥) → IsToldAs s told → ToldSo told
told_some stages.Unborn told not t = absurd t
told_some stages.Waiting told not t = absurd t
told_some (stages.Proposed own) told not t = absurd t
told_some (stages.Success reply) told not t = record { outcome = outcomes.Success reply; is = t; unrefused = tt }
told_some stages.Refused told not t = absurd (not refl)
told_some (stages.Overtaken own passed) told not t = record { outcome = _; is = t; unrefused = tt }
told_some (stages.Removed own) told not t = record { outcome = _; is = t; unrefused = tt }
told_some (stages.Restarted own) told not t = record { outcome = _; is = t; unrefused = tt }

born_or_not : (s : Stage) → (s ≡ stages.Unborn) ⊎ IsBorn s
born_or_not stages.Unborn = inl refl
born_or_not stages.Waiting = inr tt
born_or_not (stages.Proposed own) = inr tt
born_or_not (stages.Success reply) = inr tt
born_or_not stages.Refused = inr tt
born_or_not (stages.Overtaken own passed) = inr tt
born_or_not (stages.Removed own) = inr tt
born_or_not (stages.Restarted own) = inr tt

mapped_none : {A B : Type 0} (f : A → B) (o : Option A) → option_map f o ≡ None → o ≡ None
mapped_none f None e = refl
mapped_none {A} {B} f (Some a) e = absurd (some_none e) where
  some_none : ◌≡◌ {A = Option B} (Some (f a)) None → ⊥
  some_none g = cc

-- an attempt that was made has its node, which tells of it
module _ (lists : OneList AppliedState) (w : World) (m : Ranges) (seen : ℕ → List raft.Event) (b : Bound lists w m seen) (id : CmdId) (range : ℕ) (born : IsBorn ((m.range range).attempt id).stage) where
  made_there : IsMadeIn m w id range
  made_there = subst (IsOwned m w id) ((whole_reached m b.reached).owned range id born) (b.owned id)

  node_tells : (unrefused : ((m.range range).attempt id).stage ≡ stages.Refused → ⊥) → ToldSo (outcome_at id made_there.n)
  node_tells not =
      go (proposal_of id (pending_in (seat made_there.n range)))
      (((b.ranges range made_there.there).seats ((m.range range).attempt id).node made_there.n made_there.has).pending.tells id)
    where
      go : (p : Option Proposal) → TellsOf ((m.range range).attempt id).node ((m.range range).attempt id) p (outcome_at id made_there.n) → ToldSo (outcome_at id made_there.n)
      go None tells = told_some ((m.range range).attempt id).stage (outcome_at id made_there.n) not (tells (born, refl))
      go (Some p) tells = record { outcome = outcomes.Pending; is = tells.pending; unrefused = tt }

-- in the first world none was made
pub first_admitted : (lists : OneList AppliedState) (nodes : ℕ) → nodes ≤ 5 → (m : Ranges) (seen : ℕ → List raft.Event) → Bound lists (first_world nodes) m seen → AreAdmitted (first_world nodes) m
first_admitted lists nodes few m seen b id range born not =
    let made = made_there lists (first_world nodes) m seen b id range born in
    let t = node_tells lists (first_world nodes) m seen b id range born not in
    absurd (none-some t.outcome (sym (ap (outcome_at id) (first_is nodes few ((m.range range).attempt id).node made.n made.has)) ∙ t.is))

-- an admission that is not refused was granted by the replica of its range
record GrantedNow (n : Node) (at : ℕ) (id : CmdId) (request : Request) (taken : List Item) : Type 0 where
  replica : Replica
  evaluation : Evaluated
  live : seat n at ≡ Live replica
  passed : guarded replica request ≡ Ok evaluation
  answer : (step n (events.Admit at id request) taken).answer ≡ answers.Admitted

module _ (n : Node) (at : ℕ) (id : CmdId) (request : Request) (taken : List Item) where
  abbrev new : Node
  new = (step n (events.Admit at id request) taken).node

  abbrev answer : EventAnswer
  answer = (step n (events.Admit at id request) taken).answer

  abbrev by_seat : Status → EventAnswer
  by_seat status = (by_status (with_request n request) at (at_replica.Admit id request) [] status).answer

  answers_so : (status : Status) → seat n at ≡ status → GrantedNow n at id request taken ⊎ ((why : Refusal) × (answer ≡ answers.Refused why))
  answers_so Absent is = inr (NoReplica, ap by_seat is)
  answers_so (Live r) is = by_guard (guarded r request) refl where
    by_guard : (g : Result Evaluated Refusal) → guarded r request ≡ g → GrantedNow n at id request taken ⊎ ((why : Refusal) × (answer ≡ answers.Refused why))
    by_guard (Ok e) g = inl (record { replica = r; evaluation = e; live = is; passed = g; answer = ap by_seat is ∙ ap (λ z. (admitted_by r id request z).answer) g })
    by_guard (Err why) g = inr (why, ap by_seat is ∙ ap (λ z. (admitted_by r id request z).answer) g)
  answers_so (Removed applied) is = inr (NoReplica, ap by_seat is)

  -- the entry is found in the journal
  found_now : find (is_admission_of id) n.journal ≡ None → find (is_admission_of id) new.journal ≡ Some (entry_of n (events.Admit at id request) taken)
  found_now before =
      ap (find (is_admission_of id)) (step_journal n (events.Admit at id request) taken)
      ∙ find-append (is_admission_of id) n.journal (entry_of n (events.Admit at id request) taken ∷ [])
      ∙ ap (λ z. option_or z (find (is_admission_of id) (entry_of n (events.Admit at id request) taken ∷ []))) before
      ∙ ap (λ t. cond t (Some (entry_of n (events.Admit at id request) taken)) None) (same_itself id)

  granted_now : find (is_admission_of id) n.journal ≡ None → ToldSo (outcome_at id new) → GrantedNow n at id request taken
  granted_now before t = ⊎_elim
      (λ (g : GrantedNow n at id request taken). g)
      (λ (r : (why : Refusal) × (answer ≡ answers.Refused why)).
      absurd (no_refusal t.outcome r.0 t.unrefused
      (sym (ap (option_map (λ (e : JournalEntry). outcome_by new id e.answer)) (found_now before) ∙ ap (λ z. Some (outcome_by new id z)) r.1) ∙ t.is)))
      (answers_so (seat n at) refl)
    where
      no_refusal : (o : Outcome) (why : Refusal) → IsUnrefused o → ◌≡◌ {A = Option Outcome} (Some (outcomes.Refused why)) (Some o) → ⊥
      no_refusal (outcomes.Success reply) why u e = cc
      no_refusal (outcomes.Refused other) why u e = u
      no_refusal (outcomes.Ambiguous other) why u e = cc
      no_refusal outcomes.Pending why u e = cc

  -- the proposal stands in the seat
  seat_now : (g : GrantedNow n at id request taken) → seat new at ≡ Live (with_proposal g.replica (proposal id request g.evaluation (lease_of g.replica).seq))
  seat_now g =
      ap (λ s. seat (by_status (with_request n request) at (at_replica.Admit id request) [] s).node at) g.live
      ∙ ap (λ z. seat (after_replica (with_request n request) at (at_replica.Admit id request) (admitted_by g.replica id request z)) at) g.passed
      ∙ seat_same (with_request n request) at (Live (with_proposal g.replica (proposal id request g.evaluation (lease_of g.replica).seq))) (live_within n at g.replica g.live)

module _ (lists : OneList AppliedState) (w : World) (m : Ranges) (seen : ℕ → List raft.Event) (b : Bound lists w m seen) (x : Scene) (lawful : Lawful w x)
    (n : Ranges) (further : ℕ → List raft.Event) (b' : Bound lists (happens w x) n further) (on : AreLater m n) (count : ℕ) (reached : IsReached count w) (a : AreAdmitted w m) where
  abbrev after : World
  after = happens w x

  grows : WorldGrows w after
  grows = scene_grows w x

  reached_after : IsReached count after
  reached_after = reached_later count w after reached (record { schedule = x ∷ []; lawful = (lawful, tt); reached = refl })

  module _ (id : CmdId) (range : ℕ) (born : IsBorn ((n.range range).attempt id).stage) (not : ((n.range range).attempt id).stage ≡ stages.Refused → ⊥) where
    abbrev now : Attempt
    now = (n.range range).attempt id

    abbrev Goal : Type 0
    Goal = (under : IsAdmittedUnder after id range now.body.request now.seq) × (under.node ≡ now.node)

    -- one that was made before
    old : IsBorn ((m.range range).attempt id).stage → Goal
    old was =
        let l = (range_goes_on m b.reached n on range (made_there lists w m seen b id range was).there).1 in
        let g : Grown ((m.range range).attempt id) now = later_grown (m.range range) (n.range range) l id in
        let same = g.same was in
        let u = a id range was (λ e. not (ap (λ (z : Attempt). z.stage) (sym (g.ended (subst IsEnded (sym e) tt))) ∙ e)) in
        let admitted = admitted_stays w after grows id u.0.node u.0.place range ((m.range range).attempt id).body.request u.0.admitted in
        let one = one_node w u.0.node u.0.admitted.n u.0.stood.n u.0.admitted.has u.0.stood.has in
        let within = slice_get_within u.0.admitted.n.journal u.0.place (record { event = past.Admit range id u.0.admitted.at; answer = answers.Admitted }) u.0.admitted.here in (
          record {
            node = u.0.node;
            place = u.0.place;
            admitted = record { n = admitted.n; has = admitted.has; at = admitted.at; here = admitted.here; asked = admitted.asked ∙ ap (λ (z : stages.Body). Some z.request) same.body };
            only = asked_once count after reached_after id u.0.node u.0.place (record { event = past.Admit range id admitted.at; answer = answers.Admitted })
                (record { n = admitted.n; has = admitted.has; here = admitted.here }) (same_itself id);
            replica = u.0.replica;
            stood = stood_stays w after (reads_back count w reached) grows u.0.node u.0.admitted.n u.0.admitted.has u.0.place (omega (arith, within)) range u.0.replica u.0.stood;
            holds = u.0.holds;
            under = u.0.under ∙ same.seq;
            passed = subst (λ z. u.0.replica.barrier < z) same.seq u.0.passed;
          },
          u.1 ∙ same.node,
        )

    -- one that is made now: no node told of it before
    module _ (unborn : ((m.range range).attempt id).stage ≡ stages.Unborn) where
      untold : (node : ℕ) (o : Node) → node_of w node ≡ Some o → outcome_at id o ≡ None
      untold = go (m.owner id) refl (b.owned id) where
        owner_is : n.owner id ≡ At range
        owner_is = (whole_reached n b'.reached).owned range id born

        turned_at : Turned ≡ At range → ⊥
        turned_at e = cc

        at_is : (q : ℕ) → At q ≡ At range → q ≡ range
        at_is q e = cc

        go : (o : Owner) → m.owner id ≡ o → IsOwned m w id o → (node : ℕ) (o : Node) → node_of w node ≡ Some o → outcome_at id o ≡ None
        go Nobody e owned = owned
        go Turned e owned = absurd (turned_at (sym e ∙ sym (owner_stays m b.reached n on id (subst IsMade (sym e) tt)) ∙ owner_is))
        go (At q) e owned =
            let same = at_is q (sym e ∙ sym (owner_stays m b.reached n on id (subst IsMade (sym e) tt)) ∙ owner_is) in
            absurd (subst IsBorn unborn (subst (λ z. IsBorn ((m.range z).attempt id).stage) same owned.born))

      abbrev made : IsMadeIn n after id range
      made = made_there lists after n further b' id range born

      tells : ToldSo (outcome_at id made.n)
      tells = node_tells lists after n further b' id range born not

      -- the scene happened at its node
      at_scene : (k : Happened w x) → (now.node ≡ x.node) × (made.n ≡ (step k.n k.event (taken_in x.what)).node)
      at_scene k = ⊎_elim
          (λ (same : now.node ≡ x.node). (
            same,
            one_node after x.node made.n (step k.n k.event (taken_in x.what)).node (ap (node_of after) (sym same) ∙ made.has)
                (ap (λ z. node_of z x.node) k.is ∙ with_same w x.node k.n (step k.n k.event (taken_in x.what)).node k.has),
          ))
          (λ (other : now.node ≡ x.node → ⊥). absurd (none-some tells.outcome (sym (untold now.node made.n
          (sym (with_other w x.node (step k.n k.event (taken_in x.what)).node now.node other) ∙ ap (λ z. node_of z now.node) (sym k.is) ∙ made.has)) ∙ tells.is)))
          (cases_eq now.node x.node)

      -- the entry of the scene is an admission of it
      entry_is : (k : Happened w x) → is_admission_of id (entry_of k.n k.event (taken_in x.what)) ≡ true
      entry_is k = go (is_admission_of id (entry_of k.n k.event (taken_in x.what))) refl where
        taken : List Item
        taken = taken_in x.what

        before : find (is_admission_of id) k.n.journal ≡ None
        before = mapped_none (λ (e : JournalEntry). outcome_by k.n id e.answer) (find (is_admission_of id) k.n.journal) (untold x.node k.n k.has)

        go : (t : Bool) → is_admission_of id (entry_of k.n k.event (taken_in x.what)) ≡ t → is_admission_of id (entry_of k.n k.event (taken_in x.what)) ≡ true
        go true e = e
        go false e =
            let new : Node = (step k.n k.event (taken_in x.what)).node in
            let none : find (is_admission_of id) (step k.n k.event (taken_in x.what)).node.journal ≡ None =
            ap (find (is_admission_of id)) (step_journal k.n k.event (taken_in x.what))
            ∙ find-append (is_admission_of id) k.n.journal (entry_of k.n k.event (taken_in x.what) ∷ [])
            ∙ ap (λ z. option_or z (find (is_admission_of id) (entry_of k.n k.event (taken_in x.what) ∷ []))) before
            ∙ ap (λ t. cond t (Some (entry_of k.n k.event (taken_in x.what))) None) e in
            absurd (none-some tells.outcome (sym (ap (outcome_at id) (at_scene k).1
            ∙ ap (option_map (λ (y : JournalEntry). outcome_by (step k.n k.event (taken_in x.what)).node id y.answer)) none) ∙ tells.is))

      event_is : (k : Happened w x) → (a : Admitting id x.what) → k.event ≡ events.Admit a.range id a.request
      event_is k a = some_is k.event (events.Admit a.range id a.request) (sym k.came ∙ ap (event_of w) a.is)

      -- the machine's attempt is the one that was granted
      module _ (k : Happened w x) (at : ℕ) (request : Request) (is : k.event ≡ events.Admit at id request) where
        abbrev taken : List Item
        taken = taken_in x.what

        abbrev fresh : Node
        fresh = (step k.n (events.Admit at id request) taken).node

        fresh_is : (step k.n k.event taken).node ≡ fresh
        fresh_is = ap (λ e. (step k.n e taken).node) is

        fresh_has : node_of after x.node ≡ Some fresh
        fresh_has = ap (λ z. node_of z x.node) k.is ∙ with_same w x.node k.n (step k.n k.event taken).node k.has ∙ ap Some fresh_is

        unfound : find (is_admission_of id) k.n.journal ≡ None
        unfound = mapped_none (λ (e : JournalEntry). outcome_by k.n id e.answer) (find (is_admission_of id) k.n.journal) (untold x.node k.n k.has)

        grant : GrantedNow k.n at id request taken
        grant = granted_now k.n at id request taken unfound (subst (λ z. ToldSo (outcome_at id z)) ((at_scene k).1 ∙ fresh_is) tells)

        abbrev r : Replica
        r = grant.replica

        abbrev p : Proposal
        p = proposal id request grant.evaluation (lease_of r).seq

        now_seat : seat fresh at ≡ Live (with_proposal r p)
        now_seat = seat_now k.n at id request taken grant

        -- it was not pending
        no_proposal : proposal_of id r.pending ≡ None
        no_proposal = go (proposal_of id r.pending) refl (subst (λ s. TellsOf x.node ((m.range at).attempt id) (proposal_of id (pending_in s)) (outcome_at id k.n)) grant.live
            (((b.ranges at (had_opened lists w m seen b x.node at r.applied (record { n = k.n; has = k.has; history = ap history_in grant.live }))).seats x.node k.n k.has).pending.tells id)) where
              go : (q : Option Proposal) → proposal_of id r.pending ≡ q → TellsOf x.node ((m.range at).attempt id) q (outcome_at id k.n) → proposal_of id r.pending ≡ None
              go None e t = e
              go (Some q) e t = absurd (none-some outcomes.Pending (sym (untold x.node k.n k.has) ∙ t.pending))

        one_proposal : proposal_of id (with_proposal r p).pending ≡ Some p
        one_proposal =
            find-append (has_id id) r.pending (p ∷ [])
            ∙ ap (λ z. option_or z (find (has_id id) (p ∷ []))) no_proposal
            ∙ ap (λ t. cond t (Some p) None) (same_itself id)

        pending_now : TellsPending x.node ((n.range at).attempt id) p (outcome_at id fresh)
        pending_now = subst (λ q. TellsOf x.node ((n.range at).attempt id) q (outcome_at id fresh)) (ap (λ s. proposal_of id (pending_in s)) now_seat ∙ one_proposal)
            (((b'.ranges at (had_opened lists after n further b' x.node at (with_proposal r p).applied (record { n = fresh; has = fresh_has; history = ap history_in now_seat }))).seats x.node fresh fresh_has).pending.tells id)

        at_range : at ≡ range
        at_range = one_range n b'.reached id at range (subst IsBorn (sym pending_now.place) tt) born

        -- the replica's number is its node's
        number_is : r.raft.head.node ≡ x.node
        number_is = numbered (range_at (length w) at (m.range at).start) ok.is (seen at) x.node positive (core r) live where
          there : m.opened at ≡ true
          there = had_opened lists w m seen b x.node at r.applied (record { n = k.n; has = k.has; history = ap history_in grant.live })

          ok : RangeOk lists (length w) at (m.range at).start (seen at) w (m.range at)
          ok = b.ranges at there

          positive : 0 < x.node
          positive = go x.node k.has where
            go : (i : ℕ) → node_of w i ≡ Some k.n → 0 < i
            go zero e = absurd cc
            go (suc i) e = omega arith

          live : IsLive (world_after (range_at (length w) at (m.range at).start) (seen at)) x.node (core r)
          live =
              ap (λ (z : raft.World AppliedState). (raft.site z x.node).status) (sym ok.raft.raft)
              ∙ ap (λ (z : raft.Site AppliedState). z.status) (site_seen at w x.node k.n k.has)
              ∙ ap core_of grant.live

        entry_here : slice_get fresh.journal (length k.n.journal) ≡ Some (record { event = past.Admit at id (length k.n.requests); answer = answers.Admitted })
        entry_here =
            ap (λ xs. slice_get xs (length k.n.journal)) (step_journal k.n (events.Admit at id request) taken)
            ∙ get_end k.n.journal (entry_of k.n (events.Admit at id request) taken) []
            ∙ ap (λ z. Some (record { event = past.Admit at id (length k.n.requests); answer = z })) grant.answer

        under_now : Goal
        under_now =
            let passed = passed_under r request grant.evaluation grant.passed in
            let seq_is : (lease_of r).seq ≡ now.seq = sym pending_now.seq ∙ ap (λ q. ((n.range q).attempt id).seq) at_range in
            let request_is : request ≡ now.body.request = ap (λ (z : stages.Body). z.request) (sym pending_now.body) ∙ ap (λ q. ((n.range q).attempt id).body.request) at_range in
            let here = entry_here ∙ ap (λ q. Some (record { event = past.Admit q id (length k.n.requests); answer = answers.Admitted })) at_range in (
              record {
                node = x.node;
                place = length k.n.journal;
                admitted = record { n = fresh; has = fresh_has; at = length k.n.requests; here = here; asked = asked_here k.n at id request taken ∙ ap Some request_is };
                only = asked_once count after reached_after id x.node (length k.n.journal) (record { event = past.Admit range id (length k.n.requests); answer = answers.Admitted })
                    (record { n = fresh; has = fresh_has; here = here }) (same_itself id);
                replica = r;
                stood = stood_stays w after (reads_back count w reached) grows x.node k.n k.has (length k.n.journal) (omega arith) range r
                    (record { n = k.n; has = k.has; stood = ap (λ z. seat z range) (stands_now w k.n (reads_back count w reached x.node k.n k.has)) ∙ ap (seat k.n) (sym at_range) ∙ grant.live });
                holds = passed.0 ∙ number_is;
                under = seq_is;
                passed = subst (λ z. r.barrier < z) seq_is passed.1;
              },
              sym pending_now.made_at ∙ ap (λ q. ((n.range q).attempt id).node) at_range,
            )

      under_new : Goal
      under_new = ⊎_elim
          (λ (same : after ≡ w). absurd (none-some tells.outcome (sym (untold now.node made.n (ap (λ z. node_of z now.node) (sym same) ∙ made.has)) ∙ tells.is)))
          (λ (k : Happened w x).
          let d = admits w k.n (taken_in x.what) id x.what k.event k.came (entry_is k) in
          under_now k d.range d.request (event_is k d))
          (happened w x)

  pub admitted_on : AreAdmitted after n
  admitted_on id range born not = ⊎_elim
      (λ (unborn : ((m.range range).attempt id).stage ≡ stages.Unborn). under_new id range born not unborn)
      (λ (was : IsBorn ((m.range range).attempt id).stage). old id range born not was)
      (born_or_not ((m.range range).attempt id).stage)

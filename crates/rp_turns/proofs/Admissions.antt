-- An admission as a turn of each range: one that is refused, and one that is granted.
use Rattle.std.proofs.Common.{◌≡◌, ℕ, zero, suc, ◌-◌, ◌^◌, ◌<◌, ◌≤◌, ⊎_elim, Bool, true, false, cond, eqb, Option, None, Some, Result, Ok, Err, List, [], ◌∷◌, ◌++◌, map, length, refl, sym, ap, subst, ◌∙◌, arith, append-nil, eq-eqb}
use Rattle.std.specs.Prelude.{IsTrue}
use Rattle.std.specs.List.{find}
use Rattle.std.specs.Option.{option_map, option_map_or}
use Rattle.std.proofs.lemmas.Bool.{cond_both, ne_eqb, cases_eq}
use Rattle.rp_base.proofs.IdLaws.{same_itself, same_is, apart_not_same}
use Rattle.rp_base.proofs.KeyLaws.{key_inside}
use Rattle.rp_base.specs.Ids.{same_id}
use Rattle.rp_base.specs.Keys.{end_of}
use Rattle.rp_base.specs.declared.ids.CmdId.{CmdId}
use Rattle.rp_request.specs.Applied.{AppliedState}
use Rattle.rp_request.specs.Covers.{HasKeys}
use Rattle.rp_request.specs.Fits.{FitsRequest, FitsEnd}
use Rattle.rp_request.specs.declared.evaluations.Evaluated.{Evaluated}
use Rattle.rp_request.specs.declared.outcomes.Outcome.{Outcome}
use Rattle.rp_request.specs.declared.outcomes.Outcome.TheVariants as outcomes
use Rattle.rp_request.specs.declared.outcomes.Refusal.{Refusal}
use Rattle.rp_request.specs.declared.requests.Request.{Request}
use Rattle.rp_request.specs.declared.requests.Request.TheVariants as requests
use Rattle.rp_pending.specs.declared.proposals.Proposal.{Proposal}
use Rattle.rp_raftsafe.specs.World as raft
use Rattle.rp_raftsafe.specs.World.{IsRange}
use Rattle.rp_raftsafe.specs.Safety.{OneList}
use Rattle.rp_rangesafe.specs.Attempts.{Body, Stage, Unborn, Waiting, Proposed, Success, Refused, Overtaken, Removed, Restarted, IsBorn}
use Rattle.rp_rangesafe.specs.World as machine
use Rattle.rp_rangesafe.specs.World.{Commit, MayAdmit, MayCommit, here}
use Rattle.rp_rangesafe.specs.Ranges.{Ranges, Owner, Nobody, At}
use Rattle.rp_rangesafe.proofs.Joint.{range_reached}
use Rattle.rp_rangesafe.proofs.Whole.{whole_reached}
use Rattle.rp_events.specs.declared.answers.Ended.{Ended}
use Rattle.rp_events.specs.declared.answers.EventAnswer.{EventAnswer}
use Rattle.rp_events.specs.declared.answers.EventAnswer.TheVariants as answers
use Rattle.rp_events.specs.declared.journals.JournalEntry.{JournalEntry}
use Rattle.rp_events.specs.declared.node_events.Event.{Event}
use Rattle.rp_events.specs.declared.node_events.Event.TheVariants as events
use Rattle.rp_events.specs.declared.replica_events.ReplicaEvent.{ReplicaEvent}
use Rattle.rp_events.specs.declared.replica_events.ReplicaEvent.TheVariants.{Admit}
use Rattle.rp_events.specs.Admissions.{guarded, admitted_by, proposal, with_proposal}
use Rattle.rp_events.specs.Replicas.{Replica, Done, lease_of}
use Rattle.rp_events.specs.ReplicaEvents.{event}
use Rattle.rp_events.specs.Nodes.{Node, Status, Live, seat}
use Rattle.rp_events.specs.NodeEvents.{after_replica, by_status, acted, step, with_request}
use Rattle.rp_events.specs.Worlds as worlds
use Rattle.rp_events.specs.Worlds.{World, Scene, node_of, with_node, is_admission_of, ended_of, outcome_by, outcome_at, happens}
use Rattle.rp_events.specs.Lawful.{is_lawful}
use Rattle.rp_seats.specs.Scenes.{Doing, seen_by, seat_doings, node_doings, raft_events}
use Rattle.rp_seats.specs.Standing.{SeatOk, RangeOk, Bound}
use Rattle.rp_seats.specs.Turned.{IsSeated, IsNodeChange, TurnBehind}
use Rattle.rp_seats.specs.Views.{range_at}
use Rattle.rp_seats.proofs.Admits.{numbered, lawful, admitted_seat}
use Rattle.rp_seats.proofs.Bound.{bound_behind, commits_quiet}
use Rattle.rp_seats.proofs.Events as seat_events
use Rattle.rp_seats.proofs.Nodes.{seat_same, seat_other, live_within}
use Rattle.rp_seats.proofs.Scenes.{node_change}
use Rattle.rp_seats.proofs.Shown.{is_live}
use Rattle.rp_seats.proofs.Worlds.{scene_seen}
use Rattle.rp_turns.specs.Fitting.{IsFit, AreFit}
use Rattle.rp_turns.specs.Turning.{admission, RangeTurned}
use Rattle.rp_turns.proofs.Scenes as scenes
use Rattle.rp_turns.proofs.Scenes.{born_before}
use Rattle.rp_turns.proofs.Seated.{below, seated, starts}
use Rattle.rp_turns.proofs.Tells.{end_in}
use Rattle.rp_turns.proofs.Widths.{have_keys}

-- a request of its widths has its keys in the key space
fits_end : (end : Option ℕ) → FitsEnd end → end_of end ≤ 2 ^ 128 - 1
fits_end None f = omega arith
fits_end (Some k) f = let inside = (key_inside k f).1 in omega (arith, inside)

pub has_keys : (r : Request) → FitsRequest r → HasKeys r
has_keys (requests.Put k v) f = (key_inside k f.0).1
has_keys (requests.Add k v) f = (key_inside k f.0).1
has_keys (requests.CPut k o v) f = (key_inside k f.0).1
has_keys (requests.Del k) f = (key_inside k f).1
has_keys (requests.Wipe span) f = fits_end span.end f.1
has_keys (requests.Move k l v) f = ((key_inside k f.0).1, (key_inside l f.1).1)
has_keys (requests.Split k) f = tt

unborn_is : (s : Stage) → (IsBorn s → ⊥) → s ≡ Unborn
unborn_is Unborn k = refl
unborn_is Waiting k = absurd (k tt)
unborn_is (Proposed own) k = absurd (k tt)
unborn_is (Success reply) k = absurd (k tt)
unborn_is Refused k = absurd (k tt)
unborn_is (Overtaken own passed) k = absurd (k tt)
unborn_is (Removed own) k = absurd (k tt)
unborn_is (Restarted own) k = absurd (k tt)

nobody_at : (r : ℕ) → ◌≡◌ {A = Owner} Nobody (At r) → ⊥
nobody_at r e = cc

none_ended : (id : CmdId) (es : List Ended) → ended_of id es ≡ None → end_in id es ≡ None
none_ended id es e = go (end_in id es) refl where
  some_none : (o : Outcome) → ◌≡◌ {A = Option Outcome} (Some o) None → ⊥
  some_none o k = cc

  go : (o : Option Ended) → end_in id es ≡ o → o ≡ None
  go None is = refl
  go (Some y) is = absurd (some_none y.outcome (sym (ap (option_map (λ (z : Ended). z.outcome)) is) ∙ e))

module _ (lists : OneList AppliedState) (w : World) (m : Ranges) (seen : ℕ → List raft.Event) (b : Bound lists w m seen) (fit : AreFit w) (node at : ℕ) (id : CmdId) (request : Request)
    (fits : FitsRequest request) (may : IsTrue (is_lawful w (record { node = node; what = worlds.Admit at id request }))) (new : m.owner id ≡ Nobody) (n : Node) (has : node_of w node ≡ Some n)
    (unasked : find (is_admission_of id) n.journal ≡ None) where
  abbrev x : Scene
  x = record { node = node; what = worlds.Admit at id request }

  abbrev ev : Event AppliedState
  ev = events.Admit at id request

  abbrev e : ReplicaEvent AppliedState
  e = Admit id request

  abbrev left : Node
  left = (acted n ev []).node

  abbrev after : Node
  after = (step n ev []).node

  not_made : (range : ℕ) → IsBorn ((m.range range).attempt id).stage → ⊥
  not_made range born = nobody_at range (sym new ∙ (whole_reached m b.reached).owned range id born)

  plain : (range : ℕ) → (q : CmdId) → IsBorn ((m.range range).attempt q).stage → (a : EventAnswer) → is_admission_of q (scenes.entry_of lists w m seen b fit x may n has ev refl a) ≡ false
  plain range q born a = apart_not_same id q (λ same. not_made range (subst (λ z. IsBorn ((m.range range).attempt z).stage) (sym same) born))

  abbrev Turned : (range : ℕ) → m.opened range ≡ true → Type 0
  Turned range there = scenes.Turned lists w m seen b fit x may n has ev refl range there

  abbrev Hands : (range : ℕ) → m.opened range ≡ true → List ℕ → List Doing → Type 0
  Hands range there = scenes.Hands lists w m seen b fit x may n has ev refl range there

  -- no replica is there
  pub absent_scene : (status : Status) → (by_status (with_request n request) at e [] status).node ≡ with_request n request → ((range : ℕ) → seat_doings range n at 0 e [] status ≡ []) → seat n at ≡ status
      → (range : ℕ) (there : m.opened range ≡ true) → Turned range there
  absent_scene status stays nothing is range there =
      let same : left ≡ with_request n request = ap (λ z. (by_status (with_request n request) at e [] z).node) is ∙ stays in
      scenes.idle_scene lists w m seen b fit x may n has ev refl range there (plain range) (ap (λ (z : Node). z.seats) same) (ap (λ (z : Node). z.outcomes) same) (ap (λ (z : Node). z.journal) same)
      (λ bytes c. let k = subst (Hands range there bytes) (ap (seat_doings range n at 0 e []) is ∙ nothing range) c in omega (arith, k.1))

  module _ (r : Replica) (live : seat n at ≡ Live r) where
    abbrev d : Done
    d = event r e n.ticks n.rounds []

    abbrev with_asked : Result Evaluated Refusal → Node
    with_asked g = after_replica (with_request n request) at e (admitted_by r id request g)

    abbrev without : Result Evaluated Refusal → Node
    without g = after_replica n at e (admitted_by r id request g)

    left_is : left ≡ with_asked (guarded r request)
    left_is = ap (λ z. (by_status (with_request n request) at e [] z).node) live

    same_seats : (g : Result Evaluated Refusal) → (with_asked g).seats ≡ (without g).seats
    same_seats (Ok v) = refl
    same_seats (Err why) = refl

    same_outcomes : (g : Result Evaluated Refusal) → (with_asked g).outcomes ≡ (without g).outcomes
    same_outcomes (Ok v) = refl
    same_outcomes (Err why) = refl

    same_journal : (g : Result Evaluated Refusal) → (with_asked g).journal ≡ (without g).journal
    same_journal (Ok v) = refl
    same_journal (Err why) = refl

    doings_are : (range : ℕ) → node_doings range n ev [] ≡ seen_by range at 0 r e d
    doings_are range = ap (seat_doings range n at 0 e []) live

    -- its guards refuse it
    pub refused_scene : (why : Refusal) → guarded r request ≡ Err why → (range : ℕ) (there : m.opened range ≡ true) → Turned range there
    refused_scene why is range there =
        scenes.replica_scene lists w m seen b fit x may n has ev refl range there (plain range) at e [] r live (why, is)
        (ap (λ (z : Node). z.seats) left_is ∙ same_seats (guarded r request)) (ap (λ (z : Node). z.outcomes) left_is ∙ same_outcomes (guarded r request))
        (ap (λ (z : Node). z.journal) left_is ∙ same_journal (guarded r request)) 0 (doings_are range)

    -- its guards let it through
    module _ (v : Evaluated) (passes : guarded r request ≡ Ok v) where
      abbrev made : Proposal
      made = proposal id request v (lease_of r).seq

      abbrev granted : Replica
      granted = with_proposal r made

      abbrev pub body : Body
      body = record { request = request; batch = v.batch; reply = v.reply }

      left_so : left ≡ with_asked (Ok v)
      left_so = left_is ∙ ap with_asked passes

      nothing_handed : (range : ℕ) (there : m.opened range ≡ true) (bytes : List ℕ) → Hands range there bytes (node_doings range n ev []) → ⊥
      nothing_handed range there bytes c =
          let k = subst (Hands range there bytes) (doings_are range ∙ ap (λ g. seen_by range at 0 r e (admitted_by r id request g)) passes) c in
          cond_both (eqb at range) [] [] (λ (ds : List Doing). Hands range there bytes (ds ++ []) → ⊥) (λ _ z. omega (arith, z.1)) (λ _ z. omega (arith, z.1)) k

      -- another range stays
      other_range : (range : ℕ) (there : m.opened range ≡ true) → (at ≡ range → ⊥) → Turned range there
      other_range range there ne =
          scenes.quiet_scene lists w m seen b fit x may n has ev refl range there
          (ap (λ (z : Node). seat z range) left_so ∙ seat_other (with_request n request) at range (Live granted) ne)
          (λ q born. scenes.told_new lists w m seen b fit x may n has ev refl q n.outcomes (ap (λ (z : Node). z.journal) left_so) (plain range q born)
          (ap (λ (z : Node). end_in q z.outcomes) left_so ∙ ap (end_in q) (append-nil n.outcomes)))
          (nothing_handed range there)

      -- the range's own
      module _ (there : m.opened at ≡ true) where
        abbrev h : machine.World
        h = m.range at

        abbrev s : AppliedState
        s = (m.range at).start

        abbrev told : CmdId → Option Outcome
        told q = outcome_at q n

        k : IsSeated lists at s (seen at) w h node n r
        k = seated lists w m seen b fit node at n r has live

        stands : SeatOk h node at (Live r) told
        stands = seat_events.stands lists at s (seen at) w h node n r k

        state : here h node ≡ r.applied.state
        state = seat_events.state lists at s (seen at) w h node n r k

        above : (i : ℕ) → node_of w i ≡ Some n → 0 < i
        above zero e' = absurd cc
        above (suc i) e' = omega arith

        number : r.raft.head.node ≡ node
        number = numbered (range_at (length w) at s) (b.ranges at there).is (seen at) node (above node has) _
            (is_live (length w) at s (lists (range_at (length w) at s) (b.ranges at there).is) (seen at) w h (b.ranges at there).raft (range_reached m b.reached at) node n has r live stands.stands.0)

        f : IsFit r
        f = fit.replicas node at n r has live

        unborn : (h.attempt id).stage ≡ Unborn
        unborn = unborn_is (h.attempt id).stage (not_made at)

        may_admit : MayAdmit h id node body
        may_admit = lawful node at h told r stands state number (have_keys r.pending f.keys) id request (has_keys request fits) unborn v passes

        abbrev admitted : machine.Event
        admitted = machine.Admit id node body

        abbrev now : CmdId → Option Outcome
        now q = cond (same_id q id) (Some outcomes.Pending) (told q)

        seat_then : SeatOk (machine.happens h admitted) node at (Live granted) now
        seat_then = admitted_seat node at h told r stands state number (have_keys r.pending f.keys) id request (has_keys request fits) unborn v passes

        answer_is : (acted n ev []).answer ≡ answers.Admitted
        answer_is = ap (λ z. (by_status (with_request n request) at e [] z).answer) live ∙ ap (λ g. (admitted_by r id request g).answer) passes

        abbrev entry : JournalEntry
        entry = scenes.entry_of lists w m seen b fit x may n has ev refl answers.Admitted

        after_is : after ≡ record (with_asked (Ok v)) { journal = (with_asked (Ok v)).journal ++ entry ∷ [] }
        after_is = ap (λ (z : Node). record z { journal = z.journal ++ scenes.entry_of lists w m seen b fit x may n has ev refl (acted n ev []).answer ∷ [] }) left_so
            ∙ ap (λ a. record (with_asked (Ok v)) { journal = (with_asked (Ok v)).journal ++ scenes.entry_of lists w m seen b fit x may n has ev refl a ∷ [] }) answer_is

        told_pending : outcome_at id after ≡ Some outcomes.Pending
        told_pending = ap (outcome_at id) after_is
            ∙ ap (option_map (λ (z : JournalEntry). outcome_by (record (with_asked (Ok v)) { journal = n.journal ++ entry ∷ [] }) id z.answer))
            (found_last n.journal unasked)
            ∙ ap (λ (o : Option Ended). Some (option_map_or (λ (z : Outcome). z) (option_map (λ (y : Ended). y.outcome) o) outcomes.Pending))
            (ap (end_in id) (append-nil n.outcomes) ∙ none_ended id n.outcomes (fit.known node n has id (ap (option_map (λ (z : JournalEntry). outcome_by n id z.answer)) unasked)))
          where
            found_last : (journal : List JournalEntry) → find (is_admission_of id) journal ≡ None → find (is_admission_of id) (journal ++ entry ∷ []) ≡ Some entry
            found_last [] none = ap (λ t. cond t (Some entry) None) (same_itself id)
            found_last (y ∷ journal) none = go (found_last journal) (is_admission_of id y) none where
              go : (find (is_admission_of id) journal ≡ None → find (is_admission_of id) (journal ++ entry ∷ []) ≡ Some entry) → (t : Bool) → cond t (Some y) (find (is_admission_of id) journal) ≡ None
                  → cond t (Some y) (find (is_admission_of id) (journal ++ entry ∷ [])) ≡ Some entry
              go ih true z = absurd cc
              go ih false z = ih z

        told_so : (q : CmdId) → outcome_at q after ≡ now q
        told_so q = go (same_id q id) refl where
          true_false : ◌≡◌ {A = Bool} true false → ⊥
          true_false e' = cc

          go : (t : Bool) → same_id q id ≡ t → outcome_at q after ≡ cond t (Some outcomes.Pending) (told q)
          go true is = ap (λ z. outcome_at z after) (same_is q id is) ∙ told_pending
          go false is =
              scenes.told_new lists w m seen b fit x may n has ev refl q n.outcomes (ap (λ (z : Node). z.journal) left_so)
              (λ a. apart_not_same id q (λ same. true_false (sym (subst (λ z. same_id z id ≡ true) same (same_itself id)) ∙ is)))
              (ap (λ (z : Node). end_in q z.outcomes) left_so ∙ ap (end_in q) (append-nil n.outcomes))

        seat_is : seat after at ≡ Live granted
        seat_is = ap (λ (z : Node). seat z at) left_so ∙ seat_same (with_request n request) at (Live granted) (live_within n at r live)

        change : IsNodeChange w (happens w x) node n after
        change = subst (λ z. IsNodeChange w z node n after) (sym (scenes.happens_is lists w m seen b fit x may n has ev refl)) (node_change w node n after has)

        abbrev first : List machine.Event
        first = admitted ∷ []

        turned : TurnBehind lists (length w) at s (seen at ++ raft_events at w x) (happens w x) h node first
        turned = bound_behind lists (length w) at s (seen at) (raft_events at w x) w (happens w x) h (b.ranges at there) (range_reached m b.reached at) node n after change
            first (may_admit, tt) (refl, tt) refl (Live granted) seat_is now seat_then (λ q born. told_so q)
            (scene_seen at s (below lists w m seen b fit at there) w b.shaped x may (starts lists w m seen b fit x at))
            (λ bytes c. absurd (nothing_handed at there bytes (subst (Hands at there bytes) (scenes.doings_are lists w m seen b fit x may n has ev refl at) c)))

        own_range : RangeTurned lists at s (seen at ++ raft_events at w x) (happens w x) h node first
        own_range = record {
          rest = map Commit turned.commits;
          lawful = turned.lawful;
          quiet = commits_quiet turned.commits;
          elsewhere = turned.elsewhere;
          range_ok = subst (λ i. RangeOk lists i at s (seen at ++ raft_events at w x) (happens w x) (machine.run h (first ++ map Commit turned.commits)))
              (sym (scenes.same_length lists w m seen b fit x may n has ev refl)) turned.range_ok;
        }

      -- each range
      abbrev GrantedAt : ℕ → List machine.Event → Type 0
      GrantedAt range first = RangeTurned lists range (m.range range).start (seen range ++ raft_events range w x) (happens w x) (m.range range) node first

      pub granted_scene : (range : ℕ) → m.opened range ≡ true → GrantedAt range (admission (Some body) node range (worlds.Admit at id request))
      granted_scene range there = ⊎_elim
          (λ (own : at ≡ range). subst (λ i. GrantedAt i (cond (eqb at i) (machine.Admit id node body ∷ []) [])) own
          (subst (λ t. GrantedAt at (cond t (machine.Admit id node body ∷ []) [])) (sym (itself at)) (own_range (subst (λ i. m.opened i ≡ true) (sym own) there))))
          (λ (ne : at ≡ range → ⊥). subst (λ t. GrantedAt range (cond t (machine.Admit id node body ∷ []) [])) (sym (ne_eqb at range ne)) (other_range range there ne))
          (cases_eq at range)
        where
          itself : (i : ℕ) → eqb i i ≡ true
          itself i = eq-eqb i i refl

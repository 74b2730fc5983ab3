-- A lawful scene turns each range.
use Rattle.std.proofs.Common.{◌≡◌, ℕ, zero, suc, ◌+◌, ◌<◌, ◌≤◌, ⊎_elim, Bool, true, false, cond, not, Option, None, Some, Result, Ok, Err, List, [], ◌∷◌, ◌++◌, map, length, is_some, refl, sym, ap, subst, ◌∙◌, arith, append-nil}
use Rattle.std.specs.Prelude.{IsTrue, ◌&&◌, ◌||◌, ◌==◌, slice_get}
use Rattle.std.specs.List.{find, list_any}
use Rattle.std.specs.Option.{option_map, option_map_or}
use Rattle.std.proofs.lemmas.Bool.{cases_lt}
use Rattle.rp_base.proofs.Elements.{found_some}
use Rattle.rp_base.proofs.IdLaws.{same_itself, apart_not_same}
use Rattle.rp_base.specs.declared.ids.CmdId.{CmdId}
use Rattle.rp_base.specs.declared.items.Item.{Item}
use Rattle.rp_raftstep.specs.declared.messages.Message.{Message}
use Rattle.rp_request.specs.Applied.{AppliedState}
use Rattle.rp_request.specs.States.{first_applied}
use Rattle.rp_request.specs.declared.evaluations.Evaluated.{Evaluated}
use Rattle.rp_request.specs.declared.outcomes.Outcome.TheVariants as outcomes
use Rattle.rp_request.specs.declared.outcomes.Refusal.{Refusal}
use Rattle.rp_request.specs.declared.outcomes.Refusal.TheVariants.{NoReplica}
use Rattle.rp_request.specs.declared.requests.Request.{Request}
use Rattle.rp_request.specs.Fits.{FitsRequest}
use Rattle.rp_raftsafe.specs.World as raft
use Rattle.rp_raftsafe.specs.Safety.{OneList}
use Rattle.rp_rangesafe.specs.Attempts.{Body}
use Rattle.rp_rangesafe.specs.Ranges.{Ranges, Nobody}
use Rattle.rp_events.specs.declared.answers.EventAnswer.{EventAnswer}
use Rattle.rp_events.specs.declared.answers.EventAnswer.TheVariants as answers
use Rattle.rp_events.specs.declared.answers.Ended.{Ended}
use Rattle.rp_events.specs.declared.journals.JournalEntry.{JournalEntry}
use Rattle.rp_events.specs.declared.node_events.Event.{Event}
use Rattle.rp_events.specs.declared.node_events.Event.TheVariants as events
use Rattle.rp_events.specs.declared.parcels.Parcel.{Parcel}
use Rattle.rp_events.specs.declared.replica_events.ReplicaEvent.{ReplicaEvent}
use Rattle.rp_events.specs.declared.replica_events.ReplicaEvent.TheVariants as at_replica
use Rattle.rp_events.specs.Admissions.{guarded, admitted_by}
use Rattle.rp_events.specs.Replicas.{Replica, Done}
use Rattle.rp_events.specs.ReplicaEvents.{event}
use Rattle.rp_events.specs.Nodes as nodes
use Rattle.rp_events.specs.Nodes.{Node, Status, Absent, Live, seat, after_turn, parcel_of, is_full, range_numbers}
use Rattle.rp_events.specs.NodeEvents.{status_after, after_replica, by_status, delivered, acted, past_of, step, with_request}
use Rattle.rp_events.specs.Worlds.{World, Scene, Happening, Admit, Ask, Transfer, Collect, Flush, Tick, Deliver, Apply, Cut, Remove, Peek, Restart, Round, node_of, with_node, sent_by, delivery, event_of, taken_in, happens, is_admission_of, asked_at, was_asked, outcome_by, outcome_at}
use Rattle.rp_events.specs.Lawful.{Lawful, is_allowed, is_lawful}
use Rattle.rp_seats.specs.Scenes.{seat_doings, node_doings, as_event, doings_in, raft_events}
use Rattle.rp_seats.specs.Standing.{Bound, IsShut}
use Rattle.rp_seats.specs.Views.{view, range_at}
use Rattle.rp_seats.proofs.Scenes.{node_change, opened_journal, opened_outcomes}
use Rattle.rp_seats.proofs.Shut.{no_parcel, stays_shut}
use Rattle.rp_seats.proofs.Worlds.{and_right, view_with, site_seen, same_site}
use Rattle.rp_turns.specs.Fitting.{AreFit}
use Rattle.rp_turns.specs.Turning.{IsNew, IsAnswered, admission, RangeTurned, AsksFor, TellsOn, WasThere, SceneTurned}
use Rattle.rp_turns.proofs.Admissions as admissions
use Rattle.rp_turns.proofs.All as all
use Rattle.rp_turns.proofs.Far.{IsApart, far_site}
use Rattle.rp_turns.proofs.Happenings.{one_seat, message_scene, all_scene}
use Rattle.rp_turns.proofs.Replicas.{MayHappen}
use Rattle.rp_turns.proofs.Scenes as scenes
use Rattle.rp_turns.proofs.Seated.{has_opened, shut_stays}
use Rattle.rp_turns.proofs.Tells.{nothing_stays, end_stays}

-- what an event adds to a node's journal and outcomes, before it is written down
pub record Grows (n m : Node) : Type 0 where
  pub journal : m.journal ≡ n.journal
  pub more : List Ended
  pub outcomes : m.outcomes ≡ n.outcomes ++ more

grows_none : (n : Node) → Grows n n
grows_none n = record { journal = refl; more = []; outcomes = sym (append-nil n.outcomes) }

grows_replica : (n : Node) (at : ℕ) (e : ReplicaEvent AppliedState) (d : Done) → Grows n (after_replica n at e d)
grows_replica n at e d = record {
  journal = opened_journal (after_turn n at (status_after e d.replica) d) d.right;
  more = d.outcomes;
  outcomes = opened_outcomes (after_turn n at (status_after e d.replica) d) d.right;
}

grows_status : (n : Node) (at : ℕ) (e : ReplicaEvent AppliedState) (taken : List Item) (status : Status) → Grows n (by_status n at e taken status).node
grows_status n at e taken Absent = grows_none n
grows_status n at e taken (Live r) = grows_replica n at e (event r e n.ticks n.rounds taken)
grows_status n at e taken (nodes.Removed applied) = grows_none n

grows_message : (n : Node) (from at : ℕ) (m : Message AppliedState) (status : Status) → Grows n (delivered n from at m status)
grows_message n from at m Absent = record { journal = refl; more = []; outcomes = sym (append-nil n.outcomes) }
grows_message n from at m (Live r) = grows_replica n at (at_replica.Deliver from m) (event r (at_replica.Deliver from m) n.ticks n.rounds [])
grows_message n from at m (nodes.Removed applied) = grows_none n

grows_requests : (n : Node) (request : Request) (m : Node) → Grows (with_request n request) m → Grows n m
grows_requests n request m g = record { journal = g.journal; more = g.more; outcomes = g.outcomes }

abbrev acted_node : Node → Event AppliedState → List Item → Node
acted_node n ev taken = (acted n ev taken).node

pub grows : (n : Node) (ev : Event AppliedState) (taken : List Item) → Grows n (acted_node n ev taken)
grows n (events.Admit at id request) taken = grows_requests n request _ (grows_status (with_request n request) at (at_replica.Admit id request) [] (seat n at))
grows n (events.Ask at) taken = grows_status n at at_replica.Ask [] (seat n at)
grows n (events.Transfer at to) taken = grows_status n at (at_replica.Transfer to) [] (seat n at)
grows n (events.Collect at) taken = grows_status n at at_replica.Collect taken (seat n at)
grows n (events.Flush at) taken = grows_status n at at_replica.Flush [] (seat n at)
grows n events.Tick taken =
    let k : Node = record n { ticks = n.ticks + 1 } in
    let more = all.all_grow at_replica.Tick (λ r ticks round. refl) range_numbers k in
    record { journal = all.same_journal at_replica.Tick (λ r ticks round. refl) range_numbers k; more = more.0; outcomes = more.1 }
grows n (events.Deliver from at number m) taken = grows_message n from at m (seat n at)
grows n (events.Apply at) taken = grows_status n at at_replica.Apply [] (seat n at)
grows n (events.Cut at) taken = grows_status n at at_replica.Cut [] (seat n at)
grows n (events.Remove at) taken = grows_status n at at_replica.Remove [] (seat n at)
grows n (events.Peek at key) taken = grows_status n at (at_replica.Peek key) [] (seat n at)
grows n events.Restart taken =
    let more = all.all_grow at_replica.Restart (λ r ticks round. refl) range_numbers n in
    record { journal = all.same_journal at_replica.Restart (λ r ticks round. refl) range_numbers n; more = more.0; outcomes = more.1 }
grows n events.Round taken = record { journal = refl; more = []; outcomes = sym (append-nil n.outcomes) }

-- what was not asked in the world was asked at no node
any_false : {X : Type 0} (test : X → Bool) (xs : List X) (i : ℕ) (y : X) → list_any test xs ≡ false → slice_get xs i ≡ Some y → test y ≡ false
any_false test [] i y e is = absurd cc
any_false {X} test (z ∷ xs) zero y e is = go (test z) refl e where
  some_is : (u v : X) → Some u ≡ Some v → u ≡ v
  some_is u v k i = option_map_or (λ (q : X). q) (k i) u

  go : (t : Bool) → test z ≡ t → (t || list_any test xs) ≡ false → test y ≡ false
  go true at k = absurd cc
  go false at k = ap test (sym (some_is z y is)) ∙ at
any_false {X} test (z ∷ xs) (suc i) y e is = any_false test xs i y (go (test z) e) is where
  go : (t : Bool) → (t || list_any test xs) ≡ false → list_any test xs ≡ false
  go true k = absurd cc
  go false k = k

none_found : {X : Type 0} (test : X → Bool) (xs : List X) → list_any test xs ≡ false → find test xs ≡ None
none_found {X} test xs e = go (find test xs) refl where
  go : (o : Option X) → find test xs ≡ o → o ≡ None
  go None is = refl
  go (Some y) is = absurd (true_false (sym (ap is_some is) ∙ found_some test xs ∙ e)) where
    true_false : ◌≡◌ {A = Bool} true false → ⊥
    true_false k = cc

not_false : (t : Bool) → IsTrue (not t) → t ≡ false
not_false true k = absurd cc
not_false false k = refl

and_left : (s t : Bool) → IsTrue (s && t) → IsTrue s
and_left true t k = refl
and_left false t k = absurd cc

none_some : {X : Type 0} → (y : X) → ◌≡◌ {A = Option X} None (Some y) → ⊥
none_some y e = cc

module _ (lists : OneList AppliedState) (w : World) (m : Ranges) (seen : ℕ → List raft.Event) (b : Bound lists w m seen) (fit : AreFit w) (node : ℕ) (what : Happening) where
  abbrev x : Scene
  x = record { node = node; what = what }

  module _ (may : IsTrue (is_lawful w x)) (n : Node) (has : node_of w node ≡ Some n) (ev : Event AppliedState) (ev_is : event_of w what ≡ Some ev) where
    abbrev new : Node
    new = (step n ev (taken_in what)).node

    abbrev entry : JournalEntry
    entry = record { event = past_of n ev (taken_in what); answer = (acted n ev (taken_in what)).answer }

    happens_is : happens w x ≡ with_node w node new
    happens_is = scenes.happens_is lists w m seen b fit x may n has ev ev_is

    -- the nodes afterwards
    module _ (other_id : (id : CmdId) → (AsksFor id what → ⊥) → is_admission_of id entry ≡ false) where
      tells_here : TellsOn x node n new
      tells_here =
          let g = grows n ev (taken_in what) in
          record {
            nothing = λ id unasked none. nothing_stays n new entry (ap (λ l. l ++ entry ∷ []) g.journal) id (other_id id (unasked refl)) none;
            ended = λ id o is end. end_stays n new entry g.more (ap (λ l. l ++ entry ∷ []) g.journal) g.outcomes id o is end;
          }

      tells_there : (other : ℕ) (k : Node) → TellsOn x other k k
      tells_there other k = record { nothing = λ id unasked none. none; ended = λ id o is end. is }

      nodes_then : (other : ℕ) (k : Node) → node_of (happens w x) other ≡ Some k → WasThere w x other k
      nodes_then other k is = ⊎_elim
          (λ (here : (other ≡ node) × (k ≡ new)). subst (λ z. WasThere w x z k) (sym here.0) (subst (λ z. WasThere w x node z) (sym here.1) (record { n = n; was = has; tells = tells_here })))
          (λ (there : (other ≡ node → ⊥) × (node_of w other ≡ Some k)). record { n = k; was = there.1; tells = tells_there other k })
          ((node_change w node n new has).others other k (subst (λ z. node_of z other ≡ Some k) happens_is is))

    -- a shut range stays shut
    same_length : length (happens w x) ≡ length w
    same_length = scenes.same_length lists w m seen b fit x may n has ev ev_is

    -- no message of it comes
    abbrev NoneComes : Type 0
    NoneComes = (range : ℕ) → m.opened range ≡ false → (far : 8 ≤ range) → IsApart (length w) node range far ev

    shut_then : NoneComes → (range : ℕ) → m.opened range ≡ false → IsShut range (seen range ++ raft_events range w x) (happens w x)
    shut_then apart range shut = record {
      unseen = ap (λ l. l ++ raft_events range w x) was.unseen ∙ ap (map (as_event range w node)) nothing;
      view_is = ⊎_elim (λ (near : range < 8). (stays_shut range (seen range) w was near b.shaped x may nothing).view_is)
          (λ (far : 8 ≤ range).
          ap (view range) happens_is ∙ view_with range w node new
          ∙ ap (raft.with_site (view range w) node) (far_site (length w) node range far n (b.shaped.each node n has) ev (taken_in what) (apart range shut far) ∙ sym (site_seen range w node n has))
          ∙ same_site (view range w) node ∙ was.view_is
          ∙ ap (λ k. raft.nowhere (range_at k range first_applied)) (sym same_length))
          (cases_lt range 8);
    }
      where
        was : IsShut range (seen range) w
        was = b.shut range shut

        nothing : doings_in range w x ≡ []
        nothing = shut_stays lists w m seen b fit x range shut

    abbrev Turned : (range : ℕ) → m.opened range ≡ true → Type 0
    Turned range there = scenes.Turned lists w m seen b fit x may n has ev ev_is range there

    abbrev Plain : Type 0
    Plain = (id : CmdId) → (AsksFor id what → ⊥) → is_admission_of id entry ≡ false

    -- a scene by what it grants
    pub whole : (granted : Option Body) → IsAnswered m (happens w x) granted node what
        → ((range : ℕ) → m.opened range ≡ true → RangeTurned lists range (m.range range).start (seen range ++ raft_events range w x) (happens w x) (m.range range) node (admission granted node range what))
        → Plain → NoneComes → SceneTurned lists w m seen x
    whole granted answered turns plain apart = record {
      granted = granted;
      answered = answered;
      turns = turns;
      shut = shut_then apart;
      nodes = nodes_then plain;
    }

module _ (lists : OneList AppliedState) (w : World) (m : Ranges) (seen : ℕ → List raft.Event) (b : Bound lists w m seen) (fit : AreFit w) (node : ℕ) where
  -- an admission
  module _ (at : ℕ) (id : CmdId) (request : Request) (fits : FitsRequest request) (may : IsTrue (is_lawful w (record { node = node; what = Admit at id request }))) (new : m.owner id ≡ Nobody)
      (n : Node) (has : node_of w node ≡ Some n) (unasked : find (is_admission_of id) n.journal ≡ None) where
    abbrev what : Happening
    what = Admit at id request

    abbrev ev : Event AppliedState
    ev = events.Admit at id request

    abbrev then : Node
    then = (step n ev []).node

    abbrev written : JournalEntry
    written = record { event = past_of n ev []; answer = (acted n ev []).answer }

    plain : (q : CmdId) → (AsksFor q what → ⊥) → is_admission_of q written ≡ false
    plain q ne = apart_not_same id q ne

    found_last : (e : JournalEntry) → is_admission_of id e ≡ true → (journal : List JournalEntry) → find (is_admission_of id) journal ≡ None → find (is_admission_of id) (journal ++ e ∷ []) ≡ Some e
    found_last e is [] none = ap (λ t. cond t (Some e) None) is
    found_last e is (y ∷ journal) none = go (found_last e is journal) (is_admission_of id y) none where
      go : (find (is_admission_of id) journal ≡ None → find (is_admission_of id) (journal ++ e ∷ []) ≡ Some e) → (t : Bool) → cond t (Some y) (find (is_admission_of id) journal) ≡ None
          → cond t (Some y) (find (is_admission_of id) (journal ++ e ∷ [])) ≡ Some e
      go ih true z = absurd cc
      go ih false z = ih z

    told_refused : (why : Refusal) → written.answer ≡ answers.Refused why → outcome_at id then ≡ Some (outcomes.Refused why)
    told_refused why is =
        ap (option_map (λ (z : JournalEntry). outcome_by then id z.answer)) (ap (λ l. find (is_admission_of id) (l ++ written ∷ [])) (grows n ev []).journal ∙ found_last written (same_itself id) n.journal unasked)
        ∙ ap (λ a. Some (outcome_by then id a)) is

    refused : (why : Refusal) → written.answer ≡ answers.Refused why → ((range : ℕ) (there : m.opened range ≡ true) → scenes.Turned lists w m seen b fit (record { node = node; what = what }) may n has ev refl range there)
        → SceneTurned lists w m seen (record { node = node; what = what })
    refused why is turns =
        whole lists w m seen b fit node what may n has ev refl None (why, told_all) turns plain (λ range shut far. tt)
      where
        told_all : (k : Node) → node_of (happens w (record { node = node; what = what })) node ≡ Some k → outcome_at id k ≡ Some (outcomes.Refused why)
        told_all k is' = ⊎_elim
            (λ (here : (node ≡ node) × (k ≡ then)). ap (outcome_at id) here.1 ∙ told_refused why is)
            (λ (there : (node ≡ node → ⊥) × (node_of w node ≡ Some k)). absurd (there.0 refl))
            ((node_change w node n then has).others node k (subst (λ z. node_of z node ≡ Some k) (scenes.happens_is lists w m seen b fit (record { node = node; what = what }) may n has ev refl) is'))

    by_guard : (r : Replica) → seat n at ≡ Live r → (g : Result Evaluated Refusal) → guarded r request ≡ g → SceneTurned lists w m seen (record { node = node; what = what })
    by_guard r live (Err why) is =
        refused why (ap (λ z. (by_status (with_request n request) at (at_replica.Admit id request) [] z).answer) live ∙ ap (λ g. (admitted_by r id request g).answer) is)
        (admissions.refused_scene lists w m seen b fit node at id request fits may new n has unasked r live why is)
    by_guard r live (Ok v) is =
        whole lists w m seen b fit node what may n has ev refl (Some (admissions.body lists w m seen b fit node at id request fits may new n has unasked r live v is))
        (has_opened lists w m seen b fit node at n r has live, refl)
        (admissions.granted_scene lists w m seen b fit node at id request fits may new n has unasked r live v is) plain (λ range shut far. tt)

    admission_scene : (status : Status) → seat n at ≡ status → SceneTurned lists w m seen (record { node = node; what = what })
    admission_scene Absent is =
        refused NoReplica (ap (λ z. (by_status (with_request n request) at (at_replica.Admit id request) [] z).answer) is)
        (admissions.absent_scene lists w m seen b fit node at id request fits may new n has unasked Absent refl (λ range. refl) is)
    admission_scene (Live r) is = by_guard r is (guarded r request) refl
    admission_scene (nodes.Removed applied) is =
        refused NoReplica (ap (λ z. (by_status (with_request n request) at (at_replica.Admit id request) [] z).answer) is)
        (admissions.absent_scene lists w m seen b fit node at id request fits may new n has unasked (nodes.Removed applied) refl (λ range. refl) is)

  -- an event of one seat
  module _ (what : Happening) (may : IsTrue (is_lawful w (record { node = node; what = what }))) (n : Node) (has : node_of w node ≡ Some n) (ev : Event AppliedState) (ev_is : event_of w what ≡ Some ev)
      (answered : IsAnswered m (happens w (record { node = node; what = what })) None node what)
      (plain : (q : CmdId) (a : EventAnswer) → is_admission_of q (record { event = past_of n ev (taken_in what); answer = a }) ≡ false) where
    abbrev OfRange : (range : ℕ) → m.opened range ≡ true → Type 0
    OfRange range there = scenes.Turned lists w m seen b fit (record { node = node; what = what }) may n has ev ev_is range there

    quiet_whole : ((range : ℕ) (there : m.opened range ≡ true) → OfRange range there) → ((range : ℕ) → m.opened range ≡ false → (far : 8 ≤ range) → IsApart (length w) node range far ev)
        → SceneTurned lists w m seen (record { node = node; what = what })
    quiet_whole turns apart = whole lists w m seen b fit node what may n has ev ev_is None answered turns (λ q k. plain q (acted n ev (taken_in what)).answer) apart

  one_of_seat : (what : Happening) (may : IsTrue (is_lawful w (record { node = node; what = what }))) (n : Node) (has : node_of w node ≡ Some n) (ev : Event AppliedState) (ev_is : event_of w what ≡ Some ev)
      → IsAnswered m (happens w (record { node = node; what = what })) None node what
      → ((q : CmdId) (a : EventAnswer) → is_admission_of q (record { event = past_of n ev (taken_in what); answer = a }) ≡ false)
      → (at : ℕ) (e : ReplicaEvent AppliedState) (given : List Item) → ((r : Replica) → MayHappen w at r e)
      → (acted n ev (taken_in what)).node ≡ (by_status n at e given (seat n at)).node → ((range : ℕ) → node_doings range n ev (taken_in what) ≡ seat_doings range n at 0 e given (seat n at))
      → ((range : ℕ) → m.opened range ≡ false → (far : 8 ≤ range) → IsApart (length w) node range far ev) → SceneTurned lists w m seen (record { node = node; what = what })
  one_of_seat what may n has ev ev_is answered plain at e given mays acts doings apart =
      quiet_whole what may n has ev ev_is answered plain
      (λ range there. one_seat lists w m seen b fit (record { node = node; what = what }) may n has ev ev_is range there (λ q born a. plain q a) at e given (λ r live. mays r) acts (doings range)) apart

  -- a message
  by_parcel : (from number : ℕ) (may : IsTrue (is_lawful w (record { node = node; what = Deliver from number }))) (n : Node) (has : node_of w node ≡ Some n) (o : Option (Parcel AppliedState))
      → parcel_of (sent_by w from) number ≡ o → IsTrue (option_map_or (λ (p : Parcel AppliedState). p.to == node) o false) → SceneTurned lists w m seen (record { node = node; what = Deliver from number })
  by_parcel from number may n has None is sent = absurd cc
  by_parcel from number may n has (Some p) is sent =
      let ev_is : event_of w (Deliver from number) ≡ Some (delivery from number p) = ap (option_map (delivery from number)) is in
      quiet_whole (Deliver from number) may n has (delivery from number p) ev_is tt (λ q a. refl)
      (λ range there. message_scene lists w m seen b fit (record { node = node; what = Deliver from number }) may n has (delivery from number p) ev_is range there from number p.range p.to p.message is refl refl (λ q born a. refl))
      (λ range shut far own. no_parcel range (seen range) w (b.shut range shut) from number p is own)

  by_what : (what : Happening) → Lawful w (record { node = node; what = what }) → IsNew m what → (n : Node) → node_of w node ≡ Some n → IsTrue (is_allowed w node what) → SceneTurned lists w m seen (record { node = node; what = what })
  by_what (Admit at id request) lawful new n has allowed =
      admission_scene at id request lawful.widths.1 lawful.lawful new n has
      (none_found (is_admission_of id) n.journal (in_world node has))
      (seat n at) refl
    where
      no_one : was_asked w id ≡ false
      no_one = not_false (was_asked w id) (and_left (not (was_asked w id)) _ allowed)

      in_world : (i : ℕ) → node_of w i ≡ Some n → asked_at id n ≡ false
      in_world zero e = absurd cc
      in_world (suc i) e = any_false (asked_at id) w i n no_one e
  by_what (Ask at) lawful new n has allowed = one_of_seat (Ask at) lawful.lawful n has (events.Ask at) refl tt (λ q a. refl) at at_replica.Ask [] (λ r. tt) refl (λ range. refl) (λ range shut far. tt)
  by_what (Transfer at to) lawful new n has allowed = one_of_seat (Transfer at to) lawful.lawful n has (events.Transfer at to) refl tt (λ q a. refl) at (at_replica.Transfer to) [] (λ r. tt) refl (λ range. refl) (λ range shut far. tt)
  by_what (Collect at taken) lawful new n has allowed = one_of_seat (Collect at taken) lawful.lawful n has (events.Collect at) refl tt (λ q a. refl) at at_replica.Collect taken (λ r. tt) refl (λ range. refl) (λ range shut far. tt)
  by_what (Flush at) lawful new n has allowed = one_of_seat (Flush at) lawful.lawful n has (events.Flush at) refl tt (λ q a. refl) at at_replica.Flush [] (λ r. tt) refl (λ range. refl) (λ range shut far. tt)
  by_what Tick lawful new n has allowed =
      quiet_whole Tick lawful.lawful n has events.Tick refl tt (λ q a. refl)
      (λ range there. all_scene lists w m seen b fit (record { node = node; what = Tick }) lawful.lawful n has events.Tick refl range there at_replica.Tick (λ r ticks round. refl) (λ at r. tt) (n.ticks + 1) refl refl (λ q born a. refl))
      (λ range shut far. tt)
  by_what (Deliver from number) lawful new n has allowed = by_parcel from number lawful.lawful n has (parcel_of (sent_by w from) number) refl allowed
  by_what (Apply at) lawful new n has allowed = one_of_seat (Apply at) lawful.lawful n has (events.Apply at) refl tt (λ q a. refl) at at_replica.Apply [] (λ r. tt) refl (λ range. refl) (λ range shut far. tt)
  by_what (Cut at) lawful new n has allowed = one_of_seat (Cut at) lawful.lawful n has (events.Cut at) refl tt (λ q a. refl) at at_replica.Cut [] (λ r. tt) refl (λ range. refl) (λ range shut far. tt)
  by_what (Remove at) lawful new n has allowed = one_of_seat (Remove at) lawful.lawful n has (events.Remove at) refl tt (λ q a. refl) at at_replica.Remove [] (λ r. tt) refl (λ range. refl) (λ range shut far. tt)
  by_what (Peek at key) lawful new n has allowed = one_of_seat (Peek at key) lawful.lawful n has (events.Peek at key) refl tt (λ q a. refl) at (at_replica.Peek key) [] (λ r. tt) refl (λ range. refl) (λ range shut far. tt)
  by_what Restart lawful new n has allowed =
      quiet_whole Restart lawful.lawful n has events.Restart refl tt (λ q a. refl)
      (λ range there. all_scene lists w m seen b fit (record { node = node; what = Restart }) lawful.lawful n has events.Restart refl range there at_replica.Restart (λ r ticks round. refl) (λ at r. tt) n.ticks refl refl (λ q born a. refl))
      (λ range shut far. tt)
  by_what Round lawful new n has allowed =
      quiet_whole Round lawful.lawful n has events.Round refl tt (λ q a. refl)
      (λ range there. scenes.idle_scene lists w m seen b fit (record { node = node; what = Round }) lawful.lawful n has events.Round refl range there (λ q born a. refl) refl refl refl (λ bytes c. omega (arith, c.1)))
      (λ range shut far. tt)

  by_node : (what : Happening) → Lawful w (record { node = node; what = what }) → IsNew m what → (o : Option Node) → node_of w node ≡ o
      → IsTrue (option_map_or (λ n. not (is_full n) && is_allowed w node what) o false) → SceneTurned lists w m seen (record { node = node; what = what })
  by_node what lawful new None is k = absurd cc
  by_node what lawful new (Some n) is k = by_what what lawful new n is (and_right (not (is_full n)) (is_allowed w node what) k)

pub scene_turned : (lists : OneList AppliedState) (w : World) (m : Ranges) (seen : ℕ → List raft.Event) → Bound lists w m seen → AreFit w → (x : Scene) → Lawful w x → IsNew m x.what → SceneTurned lists w m seen x
scene_turned lists w m seen b fit x lawful new = by_node lists w m seen b fit x.node x.what lawful new (node_of w x.node) refl lawful.lawful

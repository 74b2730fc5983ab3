-- Each lawful scene keeps widths and ends.
use Rattle.std.proofs.Common.{◌≡◌, ℕ, zero, suc, ◌+◌, ◌≤◌, ⊎_elim, false, not, eqb, Option, None, Some, Result, Ok, Err, List, [], ◌∷◌, ◌++◌, map, length, replicate, get_or, refl, sym, ap, subst, ◌∙◌, arith, append-nil}
use Rattle.std.proofs.lemmas.Bool.Decides.{nat_tests}
use Rattle.std.specs.Prelude.{Contains, IsTrue, ◌&&◌, ◌==◌, nat_lt, nat_le}
use Rattle.std.specs.List.{AllByRecursion, find}
use Rattle.std.specs.Option.{option_map, option_map_or}
use Rattle.std.proofs.lemmas.Bool.{cond_both}
use Rattle.std.proofs.lemmas.List.Elements.{Contains-append_cases}
use Rattle.std.proofs.lemmas.Option.{slice_get_within}
use Rattle.std.proofs.lemmas.Grind.{flat_map-append}
use Rattle.rp_base.specs.declared.ids.CmdId.{CmdId}
use Rattle.rp_base.specs.declared.items.Item.{Item}
use Rattle.rp_base.specs.declared.items.Item.TheVariants as items
use Rattle.rp_flush.specs.Assigns.{asks_of}
use Rattle.rp_raftstep.specs.declared.messages.Message.{Message}
use Rattle.rp_request.specs.Applied.{AppliedState}
use Rattle.rp_request.specs.Fits.{FitsAsk}
use Rattle.rp_request.specs.declared.commands.Payload.TheVariants as payloads
use Rattle.rp_request.specs.declared.evaluations.Evaluated.{Evaluated}
use Rattle.rp_request.specs.declared.outcomes.Outcome.{Outcome}
use Rattle.rp_request.specs.declared.outcomes.Refusal.{Refusal}
use Rattle.rp_request.specs.declared.requests.Request.{Request}
use Rattle.rp_pending.specs.declared.proposals.Proposal.{Proposal}
use Rattle.rp_raftsafe.specs.World as raft
use Rattle.rp_raftsafe.specs.Safety.{OneList}
use Rattle.rp_raftsafe.specs.Proposed.{event_payloads, payloads_of}
use Rattle.rp_rangesafe.specs.Ranges.{Ranges}
use Rattle.rp_rangesafe.proofs.Joint.{range_reached}
use Rattle.rp_events.specs.declared.answers.Ended.{Ended}
use Rattle.rp_events.specs.declared.journals.JournalEntry.{JournalEntry}
use Rattle.rp_events.specs.declared.node_events.Event.{Event}
use Rattle.rp_events.specs.declared.node_events.Event.TheVariants as events
use Rattle.rp_events.specs.declared.parcels.Parcel.{Parcel}
use Rattle.rp_events.specs.declared.replica_events.ReplicaEvent.{ReplicaEvent}
use Rattle.rp_events.specs.declared.replica_events.ReplicaEvent.TheVariants as at_replica
use Rattle.rp_events.specs.Admissions.{guarded, admitted_by}
use Rattle.rp_events.specs.Replicas.{Replica, Done}
use Rattle.rp_events.specs.ReplicaEvents.{event}
use Rattle.rp_events.specs.Nodes as nodes
use Rattle.rp_events.specs.Nodes.{Node, Status, Absent, Live, seat, after_turn, parcel_of, is_full, range_numbers, first_node}
use Rattle.rp_events.specs.NodeEvents.{status_after, after_replica, by_status, live_turn, all_turns, delivered, acted, past_of, step, with_request}
use Rattle.rp_events.specs.Worlds.{World, Scene, Happening, Admit, Ask, Transfer, Collect, Flush, Tick, Deliver, Apply, Cut, Remove, Peek, Restart, Round, first_world, node_of, with_node, sent_by, delivery, event_of, taken_in, happens, is_admission_of, ended_of, outcome_at}
use Rattle.rp_events.specs.Lawful.{Lawful, is_allowed}
use Rattle.rp_seats.specs.Scenes.{Doing, Gets, seat_doings, all_doings, message_doings, node_doings, as_event, raft_events}
use Rattle.rp_seats.specs.Standing.{Bound}
use Rattle.rp_seats.specs.Steps.{AreEnds, EndEach}
use Rattle.rp_seats.specs.Views.{range_at}
use Rattle.rp_seats.proofs.Admits.{numbered}
use Rattle.rp_seats.proofs.Events as seat_events
use Rattle.rp_seats.proofs.Nodes.{live_within}
use Rattle.rp_seats.proofs.Opens.{first_is, first_length}
use Rattle.rp_seats.proofs.Outcomes.{all_ends, found_before}
use Rattle.rp_seats.proofs.Scenes.{node_change, handed_seen, opened_outcomes}
use Rattle.rp_seats.proofs.Shown.{is_live}
use Rattle.rp_seats.proofs.Worlds.{and_right}
use Rattle.rp_turns.specs.Fitting.{FitEach, HasKeysOne, IsFit, AreFit}
use Rattle.rp_turns.specs.Keeping.{IsWideOne, IsWideItem, IsWide, IsWideStatus, AreWide, AreBelow, IsItemBelow, IsBelow}
use Rattle.rp_turns.proofs.All as all
use Rattle.rp_turns.proofs.All.{times, AreOnce, each_once, numbers_once}
use Rattle.rp_turns.proofs.Handed.{ReadsFit, reads_fit, node_handed}
use Rattle.rp_turns.proofs.Replicas.{MayHappen, event_turn}
use Rattle.rp_turns.proofs.Scenes as scenes
use Rattle.rp_turns.proofs.Seated.{has_opened, seated}
use Rattle.rp_turns.proofs.Rows.{FitsTable}
use Rattle.rp_turns.proofs.States.{tables_fit}
use Rattle.rp_turns.proofs.Tells.{end_in, Lacks, lacking, told_none, nothing_asked, not_asked}
use Rattle.rp_turns.proofs.Whole.{grows}
use Rattle.rp_turns.proofs.Wide.{AllWide, MaySeat, MayAct, acted_wide}

-- what a replica holds fits, where its numbers are below their ends
asks_fit : (inbox : List Item) → AllByRecursion IsWideItem inbox → AllByRecursion IsItemBelow inbox → AllByRecursion FitsAsk (asks_of inbox)
asks_fit [] h k = tt
asks_fit (items.Write id ∷ inbox) h k = asks_fit inbox h.1 k.1
asks_fit (items.Lease ask ∷ inbox) h k = (record { from_one = h.0.0; to_five = h.0.1; prev = k.0.0; expires = k.0.1 }, asks_fit inbox h.1 k.1)

pending_fit : (ps : List Proposal) → AllByRecursion IsWideOne ps → AllByRecursion AreBelow ps → FitEach ps
pending_fit [] h k = tt
pending_fit (p ∷ ps) h k = (record { id = h.0.id; seq = k.0.0; max = k.0.1; request = h.0.request; reply = h.0.reply; batch = h.0.batch }, pending_fit ps h.1 k.1)

keys_fit : (ps : List Proposal) → AllByRecursion IsWideOne ps → AllByRecursion HasKeysOne ps
keys_fit [] h = tt
keys_fit (p ∷ ps) h = (h.0.keys, keys_fit ps h.1)

pub fit_of : (r : Replica) → IsWide r → IsBelow r → IsFit r
fit_of r h k = record {
  pending = pending_fit r.pending h.pending k.pending;
  keys = keys_fit r.pending h.pending;
  asks = asks_fit r.inbox h.inbox k.inbox;
  numbers = k.last;
}

pub fit_all : (w : World) (seen : ℕ → List raft.Event) → AreWide w seen → ((node range : ℕ) (n : Node) (r : Replica) → node_of w node ≡ Some n → seat n range ≡ Live r → IsBelow r) → AreFit w
fit_all w seen h below = record {
  ends = h.ends;
  known = h.known;
  replicas = λ node range n r has live. fit_of r (subst IsWideStatus live (h.seats node n has range)) (below node range n r has live);
}

-- the first world
all_absent : (k place : ℕ) → get_or (replicate k Absent) place Absent ≡ Absent
all_absent zero place = refl
all_absent (suc k) zero = refl
all_absent (suc k) (suc place) = all_absent k place

pub first_wide : (count : ℕ) → count ≤ 5 → (seen : ℕ → List raft.Event) → ((range : ℕ) (bytes : List ℕ) → Contains (payloads_of (seen range)) bytes → ⊥) → AreWide (first_world count) seen
first_wide count few seen nothing = record {
  few = subst (λ k. k ≤ 5) (sym (first_length count few)) few;
  ends = λ node n has. subst (λ (z : Node). AreEnds z.outcomes) (sym (first_is count few node n has)) tt;
  known = λ node n has id none. ap (λ (z : Node). ended_of id z.outcomes) (first_is count few node n has);
  seats = λ node n has range. subst (λ (z : Node). IsWideStatus (seat z range)) (sym (first_is count few node n has)) (each node range);
  handed = λ range bytes c. absurd (nothing range bytes c);
}
  where
    each : (node range : ℕ) → IsWideStatus (seat (first_node node count) range)
    each node zero = record { pending = tt; inbox = tt; asks = tt }
    each node (suc place) = subst IsWideStatus (sym (all_absent 7 place)) tt

-- outcomes along the events of each replica
module _ (e : ReplicaEvent AppliedState) (none : (r : Replica) (ticks round : ℕ) → (event r e ticks round []).right ≡ None)
    (G P : List Ended → Type 0) (adds : (xs es : List Ended) → G xs → P es → G (xs ++ es)) where
  abbrev EachEnds : Node → List ℕ → Type 0
  EachEnds n ranges = (at : ℕ) → times at ranges ≡ 1 → (r : Replica) → seat n at ≡ Live r → P (all.done_at e none n r).outcomes

  turn_kept : (n : Node) (at : ℕ) (status : Status) → ((r : Replica) → status ≡ Live r → P (all.done_at e none n r).outcomes) → G n.outcomes → G (live_turn e n at status).outcomes
  turn_kept n at Absent p g = g
  turn_kept n at (Live r) p g = subst (λ (z : Node). G z.outcomes) (sym (all.live_is e none n at r)) (adds n.outcomes (all.done_at e none n r).outcomes g (p r refl))
  turn_kept n at (nodes.Removed applied) p g = g

  all_kept : (ranges : List ℕ) → AreOnce ranges → (n : Node) → EachEnds n ranges → G n.outcomes → G (all_turns e n ranges).outcomes
  all_kept [] once n p g = g
  all_kept (at ∷ more) once n p g =
      let m : Node = live_turn e n at (seat n at) in
      all_kept more (all.once_behind at more once) m
      (λ other is r live. let k = all.behind at more once other is in
      subst (λ (d : Done). P d.outcomes) (sym (all.same_done e none other n m r (all.alike_turn e none n at (seat n at))))
      (p other k.1 r (sym (all.other_seat e none n at other k.0 (seat n at)) ∙ live)))
      (turn_kept n at (seat n at) (λ r live. p at (all.first_there at more once) r live) g)

none_some : {X : Type 0} → (y : X) → ◌≡◌ {A = Option X} None (Some y) → ⊥
none_some y e = cc

-- who is told nothing later was told nothing before
none_before : (n new : Node) (y : JournalEntry) → new.journal ≡ n.journal ++ y ∷ [] → (id : CmdId) → outcome_at id new ≡ None → outcome_at id n ≡ None
none_before n new y is id none = not_asked n id (go (find (is_admission_of id) n.journal) refl) where
  go : (o : Option JournalEntry) → find (is_admission_of id) n.journal ≡ o → find (is_admission_of id) n.journal ≡ None
  go None e = e
  go (Some z) e = absurd (none_some z (sym (nothing_asked new id none) ∙ ap (find (is_admission_of id)) is ∙ found_before (is_admission_of id) n.journal (y ∷ []) z e))

module _ (lists : OneList AppliedState) (w : World) (m : Ranges) (seen : ℕ → List raft.Event) (b : Bound lists w m seen) (fit : AreFit w) (wide : AreWide w seen) (node : ℕ) (what : Happening)
    (lawful : Lawful w (record { node = node; what = what })) (n : Node) (has : node_of w node ≡ Some n) (ev : Event AppliedState) (ev_is : event_of w what ≡ Some ev) where
  abbrev x : Scene
  x = record { node = node; what = what }

  abbrev new : Node
  new = (step n ev (taken_in what)).node

  abbrev left : Node
  left = (acted n ev (taken_in what)).node

  abbrev entry : JournalEntry
  entry = record { event = past_of n ev (taken_in what); answer = (acted n ev (taken_in what)).answer }

  happens_is : happens w x ≡ with_node w node new
  happens_is = scenes.happens_is lists w m seen b fit x lawful.lawful n has ev ev_is

  abbrev told : CmdId → Option Outcome
  told id = outcome_at id n

  -- outcomes that are ends, of attempts that the node was asked
  abbrev AreGood : List Ended → Type 0
  AreGood es = AreEnds es × ((id : CmdId) → told id ≡ None → Lacks id es)

  adds : (xs es : List Ended) → AreGood xs → EndEach told es → AreGood (xs ++ es)
  adds xs es g p = (all_ends xs es told g.0 p, (λ id none. lacking id xs es (told_none told es p id none) ∙ g.1 id none))

  good : AreGood n.outcomes
  good = (fit.ends node n has, (λ id none. lacks id n.outcomes (fit.known node n has id none))) where
    lacks : (id : CmdId) (es : List Ended) → ended_of id es ≡ None → end_in id es ≡ None
    lacks id es e = go (end_in id es) refl where
      go : (o : Option Ended) → end_in id es ≡ o → o ≡ None
      go None is = refl
      go (Some y) is = absurd (none_some y.outcome (sym e ∙ ap (option_map (λ (z : Ended). z.outcome)) is))

  seat_ends : (at : ℕ) (r : Replica) → seat n at ≡ Live r → (e : ReplicaEvent AppliedState) → MayHappen w at r e → (ticks round : ℕ) (taken : List Item) → EndEach told (event r e ticks round taken).outcomes
  seat_ends at r live e may ticks round taken =
      let k = seated lists w m seen b fit node at n r has live in
      (event_turn lists at (m.range at).start (seen at) w (m.range at) node n r k (fit.replicas node at n r has live) told
      (seat_events.stands lists at (m.range at).start (seen at) w (m.range at) node n r k) e may ticks round taken).ends

  good_replica : (at : ℕ) (r : Replica) → seat n at ≡ Live r → (e : ReplicaEvent AppliedState) → MayHappen w at r e → (taken : List Item)
      → AreGood (after_replica n at e (event r e n.ticks n.rounds taken)).outcomes
  good_replica at r live e may taken =
      let d : Done = event r e n.ticks n.rounds taken in
      subst AreGood (sym (opened_outcomes (after_turn n at (status_after e d.replica) d) d.right)) (adds n.outcomes d.outcomes good (seat_ends at r live e may n.ticks n.rounds taken))

  good_status : (at : ℕ) (e : ReplicaEvent AppliedState) → ((r : Replica) → MayHappen w at r e) → (taken : List Item) (status : Status) → seat n at ≡ status → AreGood (by_status n at e taken status).node.outcomes
  good_status at e may taken Absent is = good
  good_status at e may taken (Live r) is = good_replica at r is e (may r) taken
  good_status at e may taken (nodes.Removed applied) is = good

  good_admission : (at : ℕ) (id : CmdId) (request : Request) (status : Status) → AreGood (by_status (with_request n request) at (at_replica.Admit id request) [] status).node.outcomes
  good_admission at id request Absent = good
  good_admission at id request (Live r) = go (guarded r request) where
    go : (g : Result Evaluated Refusal) → AreGood (after_replica (with_request n request) at (at_replica.Admit id request) (admitted_by r id request g)).outcomes
    go (Ok v) = subst AreGood (sym (append-nil n.outcomes)) good
    go (Err why) = subst AreGood (sym (append-nil n.outcomes)) good
  good_admission at id request (nodes.Removed applied) = good

  good_all : (e : ReplicaEvent AppliedState) (none : (r : Replica) (ticks round : ℕ) → (event r e ticks round []).right ≡ None) → ((at : ℕ) (r : Replica) → MayHappen w at r e) → (ticks : ℕ)
      → AreGood (all_turns e (record n { ticks = ticks }) range_numbers).outcomes
  good_all e none may ticks =
      all_kept e none AreGood (EndEach told) adds range_numbers numbers_once (record n { ticks = ticks }) (λ at once r live. seat_ends at r live e (may at r) ticks n.rounds []) good

  -- what the event brings
  abbrev pub Brings : Event AppliedState → Type 0
  Brings (events.Deliver from at number msg) = (to : ℕ) × (parcel_of (sent_by w from) number ≡ Some (record { to = to; range = at; message = msg }))
  Brings _ = Unit {0}

  good_message : (from at number to : ℕ) (msg : Message AppliedState) → parcel_of (sent_by w from) number ≡ Some (record { to = to; range = at; message = msg }) → (status : Status) → seat n at ≡ status
      → AreGood (delivered n from at msg status).outcomes
  good_message from at number to msg sent Absent is = good
  good_message from at number to msg sent (Live r) is = good_replica at r is (at_replica.Deliver from msg) (number, to, sent) []
  good_message from at number to msg sent (nodes.Removed applied) is = good

  good_acted : (ev : Event AppliedState) → Brings ev → (taken : List Item) → AreGood (acted n ev taken).node.outcomes
  good_acted (events.Admit at id request) k taken = good_admission at id request (seat n at)
  good_acted (events.Ask at) k taken = good_status at at_replica.Ask (λ r. tt) [] (seat n at) refl
  good_acted (events.Transfer at to) k taken = good_status at (at_replica.Transfer to) (λ r. tt) [] (seat n at) refl
  good_acted (events.Collect at) k taken = good_status at at_replica.Collect (λ r. tt) taken (seat n at) refl
  good_acted (events.Flush at) k taken = good_status at at_replica.Flush (λ r. tt) [] (seat n at) refl
  good_acted events.Tick k taken = good_all at_replica.Tick (λ r ticks round. refl) (λ at r. tt) (n.ticks + 1)
  good_acted (events.Deliver from at number msg) k taken = good_message from at number k.0 msg k.1 (seat n at) refl
  good_acted (events.Apply at) k taken = good_status at at_replica.Apply (λ r. tt) [] (seat n at) refl
  good_acted (events.Cut at) k taken = good_status at at_replica.Cut (λ r. tt) [] (seat n at) refl
  good_acted (events.Remove at) k taken = good_status at at_replica.Remove (λ r. tt) [] (seat n at) refl
  good_acted (events.Peek at key) k taken = good_status at (at_replica.Peek key) (λ r. tt) [] (seat n at) refl
  good_acted events.Restart k taken = good_all at_replica.Restart (λ r ticks round. refl) (λ at r. tt) n.ticks
  good_acted events.Round k taken = good

  -- what is handed to Raft
  fits_handed : (range : ℕ) (bytes : List ℕ) (ev : Event AppliedState) (taken : List Item) → Contains (payloads_of (map (as_event range w node) (node_doings range n ev taken))) bytes → ReadsFit bytes
  fits_handed = node_handed ReadsFit FitsAsk (λ c f. reads_fit (payloads.Write c) f) (λ ask f _. reads_fit (payloads.Lease ask) f)
      w b.shaped fit node n has (λ at r is. (fit.replicas node at n r has is).asks)

  -- the number of the node
  in_world : (i : ℕ) → node_of w i ≡ Some n → (1 ≤ i) × (i ≤ 5)
  in_world zero e = absurd (none_some n e)
  in_world (suc place) e = let within = slice_get_within w place n e in let few = wide.few in (omega arith, omega (arith, within, few))

  own_number : (at : ℕ) (r : Replica) → seat n at ≡ Live r → r.raft.head.node ≡ node
  own_number at r live =
      let there = has_opened lists w m seen b fit node at n r has live in
      let k = seated lists w m seen b fit node at n r has live in
      let ok = b.ranges at there in
      let low = (in_world node has).0 in
      numbered (range_at (length w) at (m.range at).start) ok.is (seen at) node (omega (arith, low)) _
      (is_live (length w) at (m.range at).start (lists (range_at (length w) at (m.range at).start) ok.is) (seen at) w (m.range at) ok.raft (range_reached m b.reached at) node n has r live
      (seat_events.stands lists at (m.range at).start (seen at) w (m.range at) node n r k).stands.0)

  table_fits : (at : ℕ) (r : Replica) → seat n at ≡ Live r → FitsTable r.applied.state.table
  table_fits at r live =
      let k = seated lists w m seen b fit node at n r has live in
      subst (λ (z : AppliedState). FitsTable z.table) (seat_events.state lists at (m.range at).start (seen at) w (m.range at) node n r k)
      (tables_fit lists w m seen b wide.handed at (has_opened lists w m seen b fit node at n r has live) ((m.range at).index node))

  pub kept_by : MayAct n ev → Brings ev → AreWide (happens w x) (λ range. seen range ++ raft_events range w x)
  kept_by may brings = record {
    few = subst (λ k. k ≤ 5) (sym (scenes.same_length lists w m seen b fit x lawful.lawful n has ev ev_is)) wide.few;
    ends = λ other k is. each (λ z. AreEnds z.outcomes) now.0 wide.ends other k is;
    known = λ other k is. each (λ z. (id : CmdId) → outcome_at id z ≡ None → ended_of id z.outcomes ≡ None)
        (λ id none. ap (option_map (λ (y : Ended). y.outcome)) (now.1 id (none_before n new entry (ap (λ l. l ++ entry ∷ []) (grows n ev (taken_in what)).journal) id none)))
        wide.known other k is;
    seats = λ other k is. each AllWide (acted_wide n ev (taken_in what) may (wide.seats node n has)) wide.seats other k is;
    handed = λ range bytes c. ⊎_elim
        (λ (was : Contains (payloads_of (seen range)) bytes). wide.handed range bytes was)
        (λ (then : Contains (payloads_of (raft_events range w x)) bytes).
        fits_handed range bytes ev (taken_in what) (subst (λ ds. Contains (payloads_of (map (as_event range w node) ds)) bytes) (scenes.doings_are lists w m seen b fit x lawful.lawful n has ev ev_is range) then))
        (Contains-append_cases (payloads_of (seen range)) (payloads_of (raft_events range w x)) bytes (subst (λ l. Contains l bytes) (flat_map-append event_payloads (seen range) (raft_events range w x)) c));
  }
    where
      now : AreGood left.outcomes
      now = good_acted ev brings (taken_in what)

      each : (Q : Node → Type 0) → Q new → ((other : ℕ) (k : Node) → node_of w other ≡ Some k → Q k) → (other : ℕ) (k : Node) → node_of (happens w x) other ≡ Some k → Q k
      each Q here others other k is = ⊎_elim
          (λ (own : (other ≡ node) × (k ≡ new)). subst Q (sym own.1) here)
          (λ (there : (other ≡ node → ⊥) × (node_of w other ≡ Some k)). others other k there.1)
          ((node_change w node n new has).others other k (subst (λ z. node_of z other ≡ Some k) happens_is is))

module _ (lists : OneList AppliedState) (w : World) (m : Ranges) (seen : ℕ → List raft.Event) (b : Bound lists w m seen) (fit : AreFit w) (wide : AreWide w seen) (node : ℕ) where
  abbrev Kept : Happening → Type 0
  Kept what = AreWide (happens w (record { node = node; what = what })) (λ range. seen range ++ raft_events range w (record { node = node; what = what }))

  by_parcel : (from number : ℕ) → Lawful w (record { node = node; what = Deliver from number }) → (n : Node) → node_of w node ≡ Some n → (o : Option (Parcel AppliedState))
      → parcel_of (sent_by w from) number ≡ o → IsTrue (option_map_or (λ (p : Parcel AppliedState). p.to == node) o false) → Kept (Deliver from number)
  by_parcel from number lawful n has None is sent = absurd cc
  by_parcel from number lawful n has (Some p) is sent =
      kept_by lists w m seen b fit wide node (Deliver from number) lawful n has (delivery from number p) (ap (option_map (delivery from number)) is) tt (p.to, is)

  some_nodes : (to : ℕ) → IsTrue (nat_lt 0 to && nat_le to (length w)) → (1 ≤ to) × (to ≤ 5)
  some_nodes to t = let few = wide.few in (grind (arith, nat_tests), grind (arith, nat_tests, few))

  kept_what : (what : Happening) → Lawful w (record { node = node; what = what }) → (n : Node) → node_of w node ≡ Some n → IsTrue (is_allowed w node what) → Kept what
  kept_what (Admit at id request) lawful n has allowed =
      kept_by lists w m seen b fit wide node (Admit at id request) lawful n has (events.Admit at id request) refl (go (seat n at) refl) tt
    where
      go : (status : Status) → seat n at ≡ status → MaySeat (at_replica.Admit id request) status
      go Absent is = tt
      go (Live r) is = (lawful.widths.0, lawful.widths.1, table_fits lists w m seen b fit wide node (Admit at id request) lawful n has (events.Admit at id request) refl at r is)
      go (nodes.Removed applied) is = tt
  kept_what (Ask at) lawful n has allowed =
      kept_by lists w m seen b fit wide node (Ask at) lawful n has (events.Ask at) refl (go (seat n at) refl) tt
    where
      go : (status : Status) → seat n at ≡ status → MaySeat at_replica.Ask status
      go Absent is = tt
      go (Live r) is =
          subst (λ z. (1 ≤ z) × (z ≤ 5)) (sym (own_number lists w m seen b fit wide node (Ask at) lawful n has (events.Ask at) refl at r is))
          (in_world lists w m seen b fit wide node (Ask at) lawful n has (events.Ask at) refl node has)
      go (nodes.Removed applied) is = tt
  kept_what (Transfer at to) lawful n has allowed = kept_by lists w m seen b fit wide node (Transfer at to) lawful n has (events.Transfer at to) refl (some_nodes to allowed) tt
  kept_what (Collect at taken) lawful n has allowed = kept_by lists w m seen b fit wide node (Collect at taken) lawful n has (events.Collect at) refl tt tt
  kept_what (Flush at) lawful n has allowed = kept_by lists w m seen b fit wide node (Flush at) lawful n has (events.Flush at) refl tt tt
  kept_what Tick lawful n has allowed = kept_by lists w m seen b fit wide node Tick lawful n has events.Tick refl tt tt
  kept_what (Deliver from number) lawful n has allowed = by_parcel from number lawful n has (parcel_of (sent_by w from) number) refl allowed
  kept_what (Apply at) lawful n has allowed = kept_by lists w m seen b fit wide node (Apply at) lawful n has (events.Apply at) refl tt tt
  kept_what (Cut at) lawful n has allowed = kept_by lists w m seen b fit wide node (Cut at) lawful n has (events.Cut at) refl tt tt
  kept_what (Remove at) lawful n has allowed = kept_by lists w m seen b fit wide node (Remove at) lawful n has (events.Remove at) refl tt tt
  kept_what (Peek at key) lawful n has allowed = kept_by lists w m seen b fit wide node (Peek at key) lawful n has (events.Peek at key) refl tt tt
  kept_what Restart lawful n has allowed = kept_by lists w m seen b fit wide node Restart lawful n has events.Restart refl tt tt
  kept_what Round lawful n has allowed = kept_by lists w m seen b fit wide node Round lawful n has events.Round refl tt tt

  kept_node : (what : Happening) → Lawful w (record { node = node; what = what }) → (o : Option Node) → node_of w node ≡ o → IsTrue (option_map_or (λ n. not (is_full n) && is_allowed w node what) o false) → Kept what
  kept_node what lawful None is k = absurd cc
  kept_node what lawful (Some n) is k = kept_what what lawful n is (and_right (not (is_full n)) (is_allowed w node what) k)

pub scene_kept : (lists : OneList AppliedState) (w : World) (m : Ranges) (seen : ℕ → List raft.Event) → Bound lists w m seen → AreFit w → AreWide w seen → (x : Scene) → Lawful w x
    → AreWide (happens w x) (λ range. seen range ++ raft_events range w x)
scene_kept lists w m seen b fit wide x lawful = kept_node lists w m seen b fit wide x.node x.what lawful (node_of w x.node) refl lawful.lawful

-- Each event of a node, and each scene of a world, adds to what the nodes keep.
use Rattle.std.proofs.Common.{◌≡◌, ℕ, zero, suc, ◌+◌, ◌⊎◌, inl, inr, ⊎_elim, Option, None, Some, List, [], ◌∷◌, ◌++◌, length, set, refl, sym, ap, subst, ◌∙◌}
use Rattle.std.specs.Option.{option_map_or}
use Rattle.std.proofs.lemmas.Bool.{cases_eq}
use Rattle.std.proofs.lemmas.List.{length-set}
use Rattle.rp_base.specs.declared.items.Item.{Item}
use Rattle.rp_raftstep.specs.declared.messages.Message.{Message}
use Rattle.rp_raftstep.specs.Step.{absent_answer}
use Rattle.rp_request.specs.Applied.{AppliedState}
use Rattle.rp_events.specs.declared.parcels.Parcel.{Parcel}
use Rattle.rp_events.specs.declared.node_events.Event.{Event}
use Rattle.rp_events.specs.declared.node_events.Event.TheVariants as events
use Rattle.rp_events.specs.declared.replica_events.ReplicaEvent.{ReplicaEvent}
use Rattle.rp_events.specs.declared.replica_events.ReplicaEvent.TheVariants.{Admit, Ask, Transfer, Collect, Flush, Tick, Deliver, Apply, Cut, Remove, Peek, Restart}
use Rattle.rp_events.specs.Replicas.{Done, started}
use Rattle.rp_events.specs.ReplicaEvents.{event}
use Rattle.rp_events.specs.Nodes.{Node, Status, Absent, Live, Removed, seat, opened, opened_by, after_turn, parcels, parcel_of, range_numbers, right_base, right_base_term}
use Rattle.rp_events.specs.NodeEvents.{status_after, after_replica, by_status, live_turn, all_turns, delivered, acted, step, with_request, seat_by_message, past_of}
use Rattle.rp_events.specs.Worlds.{World, Scene, Schedule, node_of, with_node, sent_by, event_of, taken_in, after_step, happens_at, happens, run}
use Rattle.rp_events.specs.Lawful.{AllLawful, IsReached, IsLater}
use Rattle.rp_journals.specs.Growth.{Begins, Grows, WorldGrows, SentGrows}
use Rattle.rp_journals.proofs.Lists.{begins_refl, begins_push, begins_trans, begins_nil, get_begins, set_same, set_other}

pub grows_refl : (n : Node) → Grows n n
grows_refl n = record {
  number = refl;
  of = refl;
  seats = refl;
  sent = begins_refl n.sent;
  journal = begins_refl n.journal;
  requests = begins_refl n.requests;
  outcomes = begins_refl n.outcomes;
}

pub grows_trans : (n m k : Node) → Grows n m → Grows m k → Grows n k
grows_trans n m k a b = record {
  number = b.number ∙ a.number;
  of = b.of ∙ a.of;
  seats = b.seats ∙ a.seats;
  sent = begins_trans n.sent m.sent k.sent a.sent b.sent;
  journal = begins_trans n.journal m.journal k.journal a.journal b.journal;
  requests = begins_trans n.requests m.requests k.requests a.requests b.requests;
  outcomes = begins_trans n.outcomes m.outcomes k.outcomes a.outcomes b.outcomes;
}

-- what an event of a node may change beside the seats, but for its journal and its requests
grows_by : (n : Node) (seats : List Status) (ticks rounds waited : ℕ) (sent : List (Parcel AppliedState)) → length seats ≡ length n.seats → Begins n.sent sent
    → Grows n (record n { seats = seats; ticks = ticks; rounds = rounds; waited = waited; sent = sent })
grows_by n seats ticks rounds waited sent l b = record {
  number = refl;
  of = refl;
  seats = l;
  sent = b;
  journal = begins_refl n.journal;
  requests = begins_refl n.requests;
  outcomes = begins_refl n.outcomes;
}

turn_grows : (n : Node) (range : ℕ) (status : Status) (d : Done) → Grows n (after_turn n range status d)
turn_grows n range status d = record {
  number = refl;
  of = refl;
  seats = length-set n.seats range status;
  sent = begins_push n.sent (parcels range d.messages);
  journal = begins_refl n.journal;
  requests = begins_refl n.requests;
  outcomes = begins_push n.outcomes d.outcomes;
}

seat_grows : (n : Node) (range : ℕ) (status : Status) → Grows n (record n { seats = set n.seats range status })
seat_grows n range status = grows_by n (set n.seats range status) n.ticks n.rounds n.waited n.sent (length-set n.seats range status) (begins_refl n.sent)

opened_grows : (n : Node) (o : Option AppliedState) → Grows n (opened n o)
opened_grows n None = grows_refl n
opened_grows n (Some s) = go (seat n s.desc.id) where
  go : (status : Status) → Grows n (opened_by n s status)
  go Absent = seat_grows n s.desc.id (Live (started n.node n.nodes s.lease.holder right_base right_base_term s))
  go (Live r) = grows_refl n
  go (Removed applied) = grows_refl n

pub replica_grows : (n : Node) (range : ℕ) (e : ReplicaEvent AppliedState) (d : Done) → Grows n (after_replica n range e d)
replica_grows n range e d =
    let turned : Node = after_turn n range (status_after e d.replica) d in
    grows_trans n turned (opened turned d.right) (turn_grows n range (status_after e d.replica) d) (opened_grows turned d.right)

pub status_grows : (n : Node) (range : ℕ) (e : ReplicaEvent AppliedState) (taken : List Item) (status : Status) → Grows n (by_status n range e taken status).node
status_grows n range e taken Absent = grows_refl n
status_grows n range e taken (Live r) = replica_grows n range e (event r e n.ticks n.rounds taken)
status_grows n range e taken (Removed applied) = grows_refl n

live_grows : (n : Node) (range : ℕ) (e : ReplicaEvent AppliedState) (status : Status) → Grows n (live_turn e n range status)
live_grows n range e Absent = grows_refl n
live_grows n range e (Live r) = replica_grows n range e (event r e n.ticks n.rounds [])
live_grows n range e (Removed applied) = grows_refl n

all_grow : (e : ReplicaEvent AppliedState) (ranges : List ℕ) (n : Node) → Grows n (all_turns e n ranges)
all_grow e [] n = grows_refl n
all_grow e (range ∷ ranges) n =
    let turned : Node = live_turn e n range (seat n range) in
    grows_trans n turned (all_turns e turned ranges) (live_grows n range e (seat n range)) (all_grow e ranges turned)

message_grows : (n : Node) (from range : ℕ) (m : Message AppliedState) (status : Status) → Grows n (delivered n from range m status)
message_grows n from range m Absent =
    grows_by n (set n.seats range (seat_by_message n from m)) n.ticks n.rounds n.waited (n.sent ++ parcels range (absent_answer from m))
    (length-set n.seats range (seat_by_message n from m)) (begins_push n.sent (parcels range (absent_answer from m)))
message_grows n from range m (Live r) = replica_grows n range (Deliver from m) (event r (Deliver from m) n.ticks n.rounds [])
message_grows n from range m (Removed applied) = grows_refl n

-- an event of a node, before it is written down: no other event but an admission has a request
pub acted_grows : (n : Node) (e : Event AppliedState) (taken : List Item) → Grows n (acted n e taken).node
acted_grows n (events.Admit range id request) taken =
    let asked : Node = with_request n request in
    grows_trans n asked (by_status asked range (Admit id request) [] (seat n range)).node
    (record {
      number = refl;
      of = refl;
      seats = refl;
      sent = begins_refl n.sent;
      journal = begins_refl n.journal;
      requests = begins_push n.requests (request ∷ []);
      outcomes = begins_refl n.outcomes;
    })
    (status_grows asked range (Admit id request) [] (seat n range))
acted_grows n (events.Ask range) taken = status_grows n range Ask [] (seat n range)
acted_grows n (events.Transfer range to) taken = status_grows n range (Transfer to) [] (seat n range)
acted_grows n (events.Collect range) taken = status_grows n range Collect taken (seat n range)
acted_grows n (events.Flush range) taken = status_grows n range Flush [] (seat n range)
acted_grows n events.Tick taken =
    let ticked : Node = record n { ticks = n.ticks + 1 } in
    grows_trans n ticked (all_turns Tick ticked range_numbers)
    (grows_by n n.seats (n.ticks + 1) n.rounds n.waited n.sent refl (begins_refl n.sent)) (all_grow Tick range_numbers ticked)
acted_grows n (events.Deliver from range number m) taken = message_grows n from range m (seat n range)
acted_grows n (events.Apply range) taken = status_grows n range Apply [] (seat n range)
acted_grows n (events.Cut range) taken = status_grows n range Cut [] (seat n range)
acted_grows n (events.Remove range) taken = status_grows n range Remove [] (seat n range)
acted_grows n (events.Peek range key) taken = status_grows n range (Peek key) [] (seat n range)
acted_grows n events.Restart taken = all_grow Restart range_numbers n
acted_grows n events.Round taken =
    grows_by n n.seats n.ticks (n.rounds + 1) _ n.sent refl (begins_refl n.sent)

pub step_grows : (n : Node) (e : Event AppliedState) (taken : List Item) → Grows n (step n e taken).node
step_grows n e taken =
    let a : Grows n (acted n e taken).node = acted_grows n e taken in record {
      number = a.number;
      of = a.of;
      seats = a.seats;
      sent = a.sent;
      journal = begins_trans n.journal (acted n e taken).node.journal _ a.journal (begins_push (acted n e taken).node.journal (record { event = past_of n e taken; answer = (acted n e taken).answer } ∷ []));
      requests = a.requests;
      outcomes = a.outcomes;
    }

-- a node of a world in which one changed
pub with_same : (w : World) (node : ℕ) (n new : Node) → node_of w node ≡ Some n → node_of (with_node w node new) node ≡ Some new
with_same w zero n new e = absurd (none_some e)
  where
    none_some : ◌≡◌ {A = Option Node} None (Some n) → ⊥
    none_some e = cc
with_same w (suc place) n new e = set_same w place n new e

pub with_other : (w : World) (node : ℕ) (new : Node) (other : ℕ) → (other ≡ node → ⊥) → node_of (with_node w node new) other ≡ node_of w other
with_other w zero new other ne = refl
with_other w (suc place) new zero ne = refl
with_other w (suc place) new (suc j) ne = set_other w place j new (λ e. ne (ap suc e))

pub length_with : (w : World) (node : ℕ) (n : Node) → length (with_node w node n) ≡ length w
length_with w zero n = refl
length_with w (suc place) n = length-set w place n

-- what a scene does: an event of a node
pub record Happened (w : World) (x : Scene) : Type 0 where
  pub n : Node
  pub has : node_of w x.node ≡ Some n
  pub event : Event AppliedState
  pub came : event_of w x.what ≡ Some event
  pub is : happens w x ≡ with_node w x.node (step n event (taken_in x.what)).node

-- or nothing
pub happened : (w : World) (x : Scene) → (happens w x ≡ w) ⊎ Happened w x
happened w x = by_node (node_of w x.node) refl where
  by_event : (n : Node) → node_of w x.node ≡ Some n → (o : Option (Event AppliedState)) → event_of w x.what ≡ o → (happens w x ≡ w) ⊎ Happened w x
  by_event n has None came = inl (ap (λ o. option_map_or (happens_at w x) o w) has ∙ ap (λ o. option_map_or (after_step w x.node n (taken_in x.what)) o w) came)
  by_event n has (Some e) came = inr (record {
    n = n;
    has = has;
    event = e;
    came = came;
    is = ap (λ o. option_map_or (happens_at w x) o w) has ∙ ap (λ o. option_map_or (after_step w x.node n (taken_in x.what)) o w) came;
  })

  by_node : (o : Option Node) → node_of w x.node ≡ o → (happens w x ≡ w) ⊎ Happened w x
  by_node None has = inl (ap (λ o. option_map_or (happens_at w x) o w) has)
  by_node (Some n) has = by_event n has (event_of w x.what) refl

pub some_node : (a b : Node) → ◌≡◌ {A = Option Node} (Some a) (Some b) → a ≡ b
some_node a b e = cc

pub one_node : (w : World) (node : ℕ) (a b : Node) → node_of w node ≡ Some a → node_of w node ≡ Some b → a ≡ b
one_node w node a b e f = some_node a b (sym e ∙ f)

pub world_refl : (w : World) → WorldGrows w w
world_refl w = record { size = refl; each = λ node n has. record { now = n; has = has; grows = grows_refl n } }

pub world_trans : (w v u : World) → WorldGrows w v → WorldGrows v u → WorldGrows w u
world_trans w v u a b = record {
  size = b.size ∙ a.size;
  each = λ node n has.
      let x = a.each node n has in
      let y = b.each node x.now x.has in
      record { now = y.now; has = y.has; grows = grows_trans n x.now y.now x.grows y.grows };
}

pub with_grows : (w : World) (node : ℕ) (n new : Node) → node_of w node ≡ Some n → Grows n new → WorldGrows w (with_node w node new)
with_grows w node n new has g = record {
  size = length_with w node new;
  each = λ other m is. ⊎_elim
      (λ (same : other ≡ node). record {
        now = new;
        has = subst (λ k. node_of (with_node w node new) k ≡ Some new) (sym same) (with_same w node n new has);
        grows = subst (λ k. Grows k new) (one_node w node n m has (subst (λ k. node_of w k ≡ Some m) same is)) g;
      })
      (λ (ne : other ≡ node → ⊥). record { now = m; has = with_other w node new other ne ∙ is; grows = grows_refl m })
      (cases_eq other node);
}

pub scene_grows : (w : World) (x : Scene) → WorldGrows w (happens w x)
scene_grows w x = ⊎_elim
    (λ (same : happens w x ≡ w). subst (WorldGrows w) (sym same) (world_refl w))
    (λ (h : Happened w x). subst (WorldGrows w) (sym h.is) (with_grows w x.node h.n (step h.n h.event (taken_in x.what)).node h.has (step_grows h.n h.event (taken_in x.what))))
    (happened w x)

pub run_grows : (xs : Schedule) (w : World) → WorldGrows w (run w xs)
run_grows [] w = world_refl w
run_grows (x ∷ xs) w = world_trans w (happens w x) (run (happens w x) xs) (scene_grows w x) (run_grows xs (happens w x))

pub later_grows : (w later : World) → IsLater w later → WorldGrows w later
later_grows w later l = subst (WorldGrows w) l.reached (run_grows l.schedule w)

-- what is sent stays
pub sent_grows : (w later : World) → WorldGrows w later → SentGrows w later
sent_grows w later g from = go (node_of w from) refl where
  go : (o : Option Node) → node_of w from ≡ o → Begins (option_map_or (λ (n : Node). n.sent) o []) (sent_by later from)
  go None is = begins_nil (sent_by later from)
  go (Some n) is =
      let x = g.each from n is in
      subst (λ o. Begins n.sent (option_map_or (λ (k : Node). k.sent) o [])) (sym x.has) x.grows.sent

pub parcel_stays : (xs ys : List (Parcel AppliedState)) → Begins xs ys → (number : ℕ) (p : Parcel AppliedState) → parcel_of xs number ≡ Some p → parcel_of ys number ≡ Some p
parcel_stays xs ys b zero p e = absurd (none_some e)
  where
    none_some : ◌≡◌ {A = Option (Parcel AppliedState)} None (Some p) → ⊥
    none_some e = cc
parcel_stays xs ys b (suc place) p e = get_begins xs ys b place p e

-- what is behind a schedule
pub run_further : (xs ys : Schedule) (w : World) → run w (xs ++ ys) ≡ run (run w xs) ys
run_further [] ys w = refl
run_further (x ∷ xs) ys w = run_further xs ys (happens w x)

pub lawful_further : (xs ys : Schedule) (w : World) → AllLawful w xs → AllLawful (run w xs) ys → AllLawful w (xs ++ ys)
lawful_further [] ys w h k = k
lawful_further (x ∷ xs) ys w h k = (h.0, lawful_further xs ys (happens w x) h.1 k)

pub later_refl : (w : World) → IsLater w w
later_refl w = record { schedule = []; lawful = tt; reached = refl }

pub later_trans : (w v u : World) → IsLater w v → IsLater v u → IsLater w u
later_trans w v u a b = record {
  schedule = a.schedule ++ b.schedule;
  lawful = lawful_further a.schedule b.schedule w a.lawful (subst (λ z. AllLawful z b.schedule) (sym a.reached) b.lawful);
  reached = run_further a.schedule b.schedule w ∙ ap (λ z. run z b.schedule) a.reached ∙ b.reached;
}

pub reached_later : (nodes : ℕ) (w later : World) → IsReached nodes w → IsLater w later → IsReached nodes later
reached_later nodes w later r l = record {
  some = r.some;
  few = r.few;
  schedule = r.schedule ++ l.schedule;
  lawful = lawful_further r.schedule l.schedule _ r.lawful (subst (λ z. AllLawful z l.schedule) (sym r.reached) l.lawful);
  reached = run_further r.schedule l.schedule _ ∙ ap (λ z. run z l.schedule) r.reached ∙ l.reached;
}

-- The numbers of a world stay small: in the first one, and after each lawful scene.
use Rattle.std.proofs.Common.{◌≡◌, ℕ, zero, suc, ◌+◌, ◌-◌, ◌*◌, ◌^◌, ◌<◌, ◌≤◌, ◌⊎◌, inl, inr, ⊎_elim, Bool, true, false, Option, None, Some, List, [], ◌∷◌, ◌++◌, length, set, refl, sym, ap, subst, ◌∙◌, arith}
use Rattle.std.specs.Prelude.{◌==◌, ◌&&◌, not, nat_le, IsTrue, Contains, slice_get}
use Rattle.std.specs.List.{AllByRecursion, sum_by}
use Rattle.std.specs.Option.{option_map, option_map_or}
use Rattle.std.proofs.lemmas.Bool.{cases_lt}
use Rattle.std.proofs.lemmas.List.{get_or_past}
use Rattle.std.proofs.lemmas.Bool.Decides.{nat_tests}
use Rattle.std.proofs.lemmas.List.Elements.{Contains-append_cases}
use Rattle.std.proofs.lemmas.Grind.{flat_map-append}
use Rattle.rp_base.specs.Limits.{buffer_capacity}
use Rattle.rp_base.specs.declared.items.Item.{Item}
use Rattle.rp_base.specs.declared.items.Item.TheVariants as items
use Rattle.rp_request.specs.Applied.{AppliedState}
use Rattle.rp_pending.specs.declared.proposals.Proposal.{Proposal}
use Rattle.rp_raftsafe.specs.World as raft
use Rattle.rp_raftsafe.specs.Safety.{OneList}
use Rattle.rp_raftsafe.specs.Proposed.{event_payloads, payloads_of}
use Rattle.rp_rangesafe.specs.Ranges.{Ranges}
use Rattle.rp_rangesafe.proofs.Joint.{range_reached}
use Rattle.rp_events.specs.declared.node_events.Event.{Event}
use Rattle.rp_events.specs.declared.node_events.Event.TheVariants as events
use Rattle.rp_events.specs.declared.parcels.Parcel.{Parcel}
use Rattle.rp_events.specs.Replicas.{Replica, lease_of}
use Rattle.rp_events.specs.Nodes.{Node, Status, Absent, Live, seat, is_full, parcel_of}
use Rattle.rp_events.specs.NodeEvents.{step}
use Rattle.rp_events.specs.Worlds.{World, Scene, Happening, Admit, Ask, Transfer, Collect, Flush, Tick, Deliver, Apply, Cut, Remove, Peek, Restart, Round, node_of, with_node, sent_by, delivery, event_of, taken_in, happens}
use Rattle.rp_events.specs.Lawful.{is_allowed, is_lawful, Lawful}
use Rattle.rp_seats.specs.Views.{read}
use Rattle.rp_seats.specs.Scenes.{raft_events}
use Rattle.rp_seats.specs.Standing.{Bound}
use Rattle.rp_seats.specs.Steps.{AreEnds}
use Rattle.rp_seats.specs.Turned.{IsSeated}
use Rattle.rp_seats.proofs.Events as seat_events
use Rattle.rp_seats.proofs.Shut.{shut_seat}
use Rattle.rp_seats.proofs.Shaped.{length_with, node_after, shaped_scene}
use Rattle.rp_turns.specs.Fitting.{AreFit}
use Rattle.rp_turns.specs.Turning.{SceneTurned}
use Rattle.rp_turns.proofs.Scenes.{happens_is, doings_are}
use Rattle.rp_turns.specs.Keeping.{AreBelow, IsItemBelow, IsBelow}
use Rattle.rp_bound.specs.Numbers.{ItemBelow, ProposalBelow, PayloadBelow, ReplicaBelow, StatusBelow, items_in, work_of, all_work, events_of, NodeBelow, RangeBelow, AreSmall}
use Rattle.rp_bound.proofs.Admissions.{may_happen, and_left, and_right}
use Rattle.rp_bound.proofs.Below.{opened_below}
use Rattle.rp_bound.proofs.Counts.{payload_more, assigning_low}
use Rattle.rp_bound.proofs.Grown.{Grown, status_more, node_grown}
use Rattle.rp_bound.proofs.Heights.{lai_height, seq_height}
use Rattle.rp_bound.proofs.Seats.{Hands}
use Rattle.rp_bound.proofs.Work.{sum_changed, sum_within, sum_bounded, work_low, work_then, gain_then, requests_then, ticks_then, Adds, step_adds}

-- the items of a collect
pub given_few : (w : World) (node : ℕ) (what : Happening) → IsTrue (is_allowed w node what) → length (taken_in what) ≤ 16
given_few w node (Admit range id request) may = omega arith
given_few w node (Ask range) may = omega arith
given_few w node (Transfer range to) may = omega arith
given_few w node (Collect range taken) may = few taken may where
  few : (taken : List Item) → IsTrue (nat_le (length taken) buffer_capacity) → length taken ≤ 16
  few taken le = grind (arith, nat_tests)
given_few w node (Flush range) may = omega arith
given_few w node Tick may = omega arith
given_few w node (Deliver from number) may = omega arith
given_few w node (Apply range) may = omega arith
given_few w node (Cut range) may = omega arith
given_few w node (Remove range) may = omega arith
given_few w node (Peek range key) may = omega arith
given_few w node Restart may = omega arith
given_few w node Round may = omega arith

-- a lawful scene has an event, at a node that is not full
pub record HasEvent (w : World) (x : Scene) : Type 0 where
  pub n : Node
  pub has : node_of w x.node ≡ Some n
  pub free : length n.journal < 2 ^ 31
  pub ev : Event AppliedState
  pub is : event_of w x.what ≡ Some ev

not_full : (n : Node) → IsTrue (not (is_full n)) → length n.journal < 2 ^ 31
not_full n free = grind (arith, nat_tests)

event_there : (w : World) (node : ℕ) (what : Happening) → IsTrue (is_allowed w node what) → (ev : Event AppliedState) × (event_of w what ≡ Some ev)
event_there w node (Admit range id request) may = (_, refl)
event_there w node (Ask range) may = (_, refl)
event_there w node (Transfer range to) may = (_, refl)
event_there w node (Collect range taken) may = (_, refl)
event_there w node (Flush range) may = (_, refl)
event_there w node Tick may = (_, refl)
event_there w node (Deliver from number) may = sent (parcel_of (sent_by w from) number) may where
  sent : (o : Option (Parcel AppliedState)) → IsTrue (option_map_or (λ (p : Parcel AppliedState). p.to == node) o false) → (ev : Event AppliedState) × (option_map (delivery from number) o ≡ Some ev)
  sent None k = absurd cc
  sent (Some p) k = (delivery from number p, refl)
event_there w node (Apply range) may = (_, refl)
event_there w node (Cut range) may = (_, refl)
event_there w node (Remove range) may = (_, refl)
event_there w node (Peek range key) may = (_, refl)
event_there w node Restart may = (_, refl)
event_there w node Round may = (_, refl)

pub has_event : (w : World) (x : Scene) → IsTrue (is_lawful w x) → HasEvent w x
has_event w x lawful = go (node_of w x.node) refl lawful where
  go : (o : Option Node) → node_of w x.node ≡ o → IsTrue (option_map_or (λ n. not (is_full n) && is_allowed w x.node x.what) o false) → HasEvent w x
  go None has h = absurd cc
  go (Some n) has h =
      let e = event_there w x.node x.what (and_right (not (is_full n)) (is_allowed w x.node x.what) h) in
      record { n = n; has = has; free = not_full n (and_left (not (is_full n)) (is_allowed w x.node x.what) h); ev = e.0; is = e.1 }

set_here : (w : World) (place : ℕ) (new n : Node) → slice_get w place ≡ Some n → slice_get (set w place new) place ≡ Some new
set_here [] place new n e = absurd cc
set_here (y ∷ w) zero new n e = refl
set_here (y ∷ w) (suc place) new n e = set_here w place new n e

nothing_behind : (xs ys : List raft.Event) → xs ++ ys ≡ [] → ys ≡ []
nothing_behind [] ys e = e
nothing_behind (x ∷ xs) ys e = absurd cc

no_payload : (bytes : List ℕ) → Contains (payloads_of []) bytes → ⊥
no_payload bytes c = omega (arith, c.1)

-- how far the numbers of a world have grown, where its outcomes are ends
module _ (lists : OneList AppliedState) (w : World) (m : Ranges) (seen : ℕ → List raft.Event) (bound : Bound lists w m seen)
    (ends : (node : ℕ) (n : Node) → node_of w node ≡ Some n → AreEnds n.outcomes) (small : AreSmall w seen) where
  abbrev pub top : ℕ → ℕ
  top range = (small.ranges range).0

  handed : (range : ℕ) (bytes : List ℕ) → Contains (payloads_of (seen range)) bytes → PayloadBelow (top range) (events_of w) (read bytes)
  handed range = (small.ranges range).1.handed

  there : (node range : ℕ) (n : Node) (r : Replica) → node_of w node ≡ Some n → seat n range ≡ Live r → m.opened range ≡ true
  there node range n r has live = go (m.opened range) refl where
    absent_live : ◌≡◌ {A = Status} Absent (Live r) → ⊥
    absent_live e = cc

    go : (b : Bool) → m.opened range ≡ b → b ≡ true
    go true is = refl
    go false is = absurd (absent_live (sym (shut_seat range (seen range) w (bound.shut range is) node n has) ∙ live))

  stands : (node range : ℕ) (n : Node) (r : Replica) → node_of w node ≡ Some n → seat n range ≡ Live r → IsSeated lists range (m.range range).start (seen range) w (m.range range) node n r
  stands node range n r has live = record {
    below = opened_below m bound.reached range (there node range n r has live);
    shaped = bound.shaped;
    ok = bound.ranges range (there node range n r has live);
    reached = range_reached m bound.reached range;
    has = has;
    ends = ends node n has;
    live = live;
  }

  -- each replica's lease index and sequence
  pub replica_low : (node range : ℕ) (n : Node) (r : Replica) → node_of w node ≡ Some n → seat n range ≡ Live r
      → (r.applied.state.lai ≤ top range) × ((lease_of r).seq ≤ suc (events_of w))
  replica_low node range n r has live =
      let o = there node range n r has live in
      let state = seat_events.state lists range (m.range range).start (seen range) w (m.range range) node n r (stands node range n r has live) in (
        subst (λ (s : AppliedState). s.lai ≤ top range) state (lai_height lists w m seen bound top (events_of w) handed range o ((m.range range).index node)),
        subst (λ (s : AppliedState). s.lease.seq ≤ suc (events_of w)) state (seq_height lists w m seen bound top (events_of w) handed range o ((m.range range).index node)),
      )

  -- and all that it holds
  work_below : all_work w < 2 ^ 64
  work_below =
      let a = sum_bounded work_of 2305843043573432448 w (λ place n e. work_low n (small.nodes (suc place) n e)) in
      let f = small.few in omega (arith, a, f)

  events_below : events_of w ≤ 5 * 2 ^ 31
  events_below =
      let a = sum_bounded (λ (n : Node). length n.journal) (2 ^ 31) w (λ place n e. (small.nodes (suc place) n e).journal) in
      let f = small.few in omega (arith, a, f)

  pending_below : (top' : ℕ) → top' < 2 ^ 64 → (ps : List Proposal) → AllByRecursion (ProposalBelow top' (events_of w)) ps → AllByRecursion AreBelow ps
  pending_below top' low [] h = tt
  pending_below top' low (p ∷ ps) h = ((let a = h.0.1 in let e = events_below in omega (arith, a, e), let a = h.0.0 in omega (arith, a, low)), pending_below top' low ps h.1)

  item_low : (expiry : ℕ) → expiry < 2 ^ 64 → (item : Item) → ItemBelow (events_of w) expiry item → IsItemBelow item
  item_low expiry low (items.Write id) h = tt
  item_low expiry low (items.Lease ask) h = (let a = h.0 in let e = events_below in omega (arith, a, e), let a = h.1 in omega (arith, a, low))

  inbox_below : (expiry : ℕ) → expiry < 2 ^ 64 → (inbox : List Item) → AllByRecursion (ItemBelow (events_of w) expiry) inbox → AllByRecursion IsItemBelow inbox
  inbox_below expiry low [] h = tt
  inbox_below expiry low (item ∷ inbox) h = (item_low expiry low item h.0, inbox_below expiry low inbox h.1)

  pub replica_below : (node range : ℕ) (n : Node) (r : Replica) → node_of w node ≡ Some n → seat n range ≡ Live r → IsBelow r
  replica_below node range n r has live =
      let k = (small.ranges range).1 in
      let b : ReplicaBelow (top range) (events_of w) (n.ticks + 40) (length n.requests) r = subst (StatusBelow (top range) (events_of w) (n.ticks + 40) (length n.requests)) live (k.seats node n has) in
      let room = k.room in
      let part = sum_within (λ (z : Node). items_in (seat z range)) w node n has in
      let items = ap items_in live in
      let low = work_below in
      let last = assigning_low (top range) r (replica_low node range n r has live).0 b.assigned in
      let nb = small.nodes node n has in
      let ticks = nb.ticks in
      let journal = nb.journal in
      record {
        pending = pending_below (top range) (omega (arith, room, low)) r.pending b.pending;
        inbox = inbox_below (n.ticks + 40) (omega (arith, ticks, journal)) r.inbox b.inbox;
        last = omega (arith, last, room, part, items, low);
      }

-- the numbers after a lawful scene
module _ (lists : OneList AppliedState) (w : World) (m : Ranges) (seen : ℕ → List raft.Event) (bound : Bound lists w m seen) (fit : AreFit w) (small : AreSmall w seen) where
  module _ (x : Scene) (lawful : Lawful w x) (t : SceneTurned lists w m seen x) where
    at : HasEvent w x
    at = has_event w x lawful.lawful

    abbrev n : Node
    n = at.n

    abbrev new : Node
    new = (step n at.ev (taken_in x.what)).node

    world_is : happens w x ≡ with_node w x.node new
    world_is = happens_is lists w m seen bound fit x lawful.lawful n at.has at.ev at.is

    adds : Adds n new (requests_then n at.ev) (ticks_then n at.ev)
    adds = step_adds n at.ev (taken_in x.what)

    few : length (taken_in x.what) ≤ 16
    few = given_few w x.node x.what (may_happen w x lawful.lawful).allowed

    sum_is : (f : Node → ℕ) → sum_by f (happens w x) + f n ≡ sum_by f w + f new
    sum_is f = ap (λ z. sum_by f z + f n) world_is ∙ sum_changed f w x.node n new at.has

    -- an event more
    one_event : events_of (happens w x) ≡ suc (events_of w)
    one_event = let s = sum_is (λ (z : Node). length z.journal) in let j = adds.journal in omega (arith, s, j)

    node_below : NodeBelow n
    node_below = small.nodes x.node n at.has

    requests_low : (ev : Event AppliedState) → requests_then n ev ≤ length n.requests + 1
    requests_low (events.Admit range id request) = omega arith
    requests_low (events.Ask range) = omega arith
    requests_low (events.Transfer range to) = omega arith
    requests_low (events.Collect range) = omega arith
    requests_low (events.Flush range) = omega arith
    requests_low events.Tick = omega arith
    requests_low (events.Deliver from range number message) = omega arith
    requests_low (events.Apply range) = omega arith
    requests_low (events.Cut range) = omega arith
    requests_low (events.Remove range) = omega arith
    requests_low (events.Peek range key) = omega arith
    requests_low events.Restart = omega arith
    requests_low events.Round = omega arith

    ticks_low : (ev : Event AppliedState) → (n.ticks ≤ ticks_then n ev) × (ticks_then n ev ≤ n.ticks + 1)
    ticks_low (events.Admit range id request) = (omega arith, omega arith)
    ticks_low (events.Ask range) = (omega arith, omega arith)
    ticks_low (events.Transfer range to) = (omega arith, omega arith)
    ticks_low (events.Collect range) = (omega arith, omega arith)
    ticks_low (events.Flush range) = (omega arith, omega arith)
    ticks_low events.Tick = (omega arith, omega arith)
    ticks_low (events.Deliver from range number message) = (omega arith, omega arith)
    ticks_low (events.Apply range) = (omega arith, omega arith)
    ticks_low (events.Cut range) = (omega arith, omega arith)
    ticks_low (events.Remove range) = (omega arith, omega arith)
    ticks_low (events.Peek range key) = (omega arith, omega arith)
    ticks_low events.Restart = (omega arith, omega arith)
    ticks_low events.Round = (omega arith, omega arith)

    new_below : NodeBelow new
    new_below = record {
      requests = (let a = adds.requests in let b = requests_low at.ev in let c = node_below.requests in let j = adds.journal in omega (arith, a, b, c, j));
      ticks = (let a = adds.ticks in let b = (ticks_low at.ev).1 in let c = node_below.ticks in let j = adds.journal in omega (arith, a, b, c, j));
      journal = (let a = at.free in let j = adds.journal in omega (arith, a, j));
    }

    -- the node's work grows by what the event may bring
    work_new : work_of n + gain_then n at.ev ≤ work_of new
    work_new =
        subst (λ j. work_of n + gain_then n at.ev ≤ (j - length new.requests) * (length new.requests + 16)) (sym adds.journal)
        (subst (λ r. work_of n + gain_then n at.ev ≤ (length n.journal + 1 - r) * (r + 16)) (sym adds.requests) (work_then n node_below.requests at.ev))

    module _ (q : ℕ) where
      abbrev Given : List ℕ → Type 0
      Given bytes = Contains (payloads_of (raft_events q w x)) bytes

      abbrev Whole : Type 0
      Whole = Grown (top lists w m seen bound fit.ends small q) (suc (events_of w)) (new.ticks + 40) (length new.requests) (gain_then n at.ev) (seat n q) (seat new q) Given

      seat_below : StatusBelow (top lists w m seen bound fit.ends small q) (suc (events_of w)) (n.ticks + 40) (length n.requests) (seat n q)
      seat_below = status_more (top lists w m seen bound fit.ends small q) (events_of w) (n.ticks + 40) (length n.requests) (top lists w m seen bound fit.ends small q) (suc (events_of w)) (n.ticks + 40) (length n.requests)
          (omega arith) (omega arith) (omega arith) (omega arith) (seat n q) ((small.ranges q).1.seats x.node n at.has)

      near : q < 8 → Whole
      near below =
          let g = node_grown w x.node q n below (let e = (bound.shaped.each x.node n at.has).eight in omega (arith, below, e)) (top lists w m seen bound fit.ends small q) (suc (events_of w)) seat_below
          (λ r live. (fit.replicas x.node q n r at.has live, (replica_low lists w m seen bound fit.ends small x.node q n r at.has live).0, (replica_low lists w m seen bound fit.ends small x.node q n r at.has live).1)) at.ev (taken_in x.what) few in
          record {
            highest = g.highest;
            above = g.above;
            below = subst (λ i. StatusBelow g.highest (suc (events_of w)) (i + 40) (length new.requests) (seat new q)) (sym adds.ticks)
                (subst (λ i. StatusBelow g.highest (suc (events_of w)) (ticks_then n at.ev + 40) i (seat new q)) (sym adds.requests) g.below);
            room = g.room;
            handed = λ bytes does. g.handed bytes (subst (λ ds. Hands w x.node q ds bytes) (doings_are lists w m seen bound fit x lawful.lawful n at.has at.ev at.is q) does);
          }

      after_is : node_of (happens w x) x.node ≡ Some new
      after_is = ap (λ z. node_of z x.node) world_is ∙ there x.node at.has where
        there : (node : ℕ) → node_of w node ≡ Some n → node_of (with_node w node new) node ≡ Some new
        there zero has = absurd cc
        there (suc place) has = set_here w place new n has

      far : 8 ≤ q → m.opened q ≡ false → Whole
      far past shut =
          let old : seat n q ≡ Absent = get_or_past n.seats q Absent (let e = (bound.shaped.each x.node n at.has).eight in omega (arith, past, e)) in
          let now : seat new q ≡ Absent = get_or_past new.seats q Absent (let e = ((shaped_scene w bound.shaped x).each x.node new after_is).eight in omega (arith, past, e)) in
          record {
            highest = top lists w m seen bound fit.ends small q;
            above = omega arith;
            below = subst (StatusBelow (top lists w m seen bound fit.ends small q) (suc (events_of w)) (new.ticks + 40) (length new.requests)) (sym now) tt;
            room = (let k = ap items_in old in let l = ap items_in now in omega (arith, k, l));
            handed = λ bytes does. absurd (no_payload bytes (subst (λ es. Contains (payloads_of es) bytes) (nothing_behind (seen q) (raft_events q w x) (t.shut q shut).unseen) does));
          }

      whole : Whole
      whole = go (m.opened q) refl (cases_lt q 8) where
        go : (b : Bool) → m.opened q ≡ b → (q < 8) ⊎ (8 ≤ q) → Whole
        go b is (inl below) = near below
        go true is (inr past) = let below = opened_below m bound.reached q is in absurd (omega (arith, below, past))
        go false is (inr past) = far past is

      abbrev seqs : ℕ
      seqs = events_of (happens w x)

      range_small : RangeBelow (happens w x) q (seen q ++ raft_events q w x) whole.highest
      range_small = record {
        room = (let a = (small.ranges q).1.room in let b = sum_is (λ (z : Node). items_in (seat z q)) in let c = sum_is work_of in let d = whole.room in let e = work_new in omega (arith, a, b, c, d, e));
        seats = λ node z has.
            node_after (λ (i : ℕ) (y : Node). StatusBelow whole.highest seqs (y.ticks + 40) (length y.requests) (seat y q)) w x.node new
            (subst (λ s. StatusBelow whole.highest s (new.ticks + 40) (length new.requests) (seat new q)) (sym one_event) whole.below)
            (λ i y was. status_more (top lists w m seen bound fit.ends small q) (events_of w) (y.ticks + 40) (length y.requests) whole.highest seqs (y.ticks + 40) (length y.requests)
            whole.above (let e = one_event in omega (arith, e)) (omega arith) (omega arith) (seat y q) ((small.ranges q).1.seats i y was))
            node z (subst (λ v. node_of v node ≡ Some z) world_is has);
        handed = λ bytes c. ⊎_elim
            (λ (before : Contains (payloads_of (seen q)) bytes). payload_more (top lists w m seen bound fit.ends small q) (events_of w) whole.highest seqs whole.above (let e = one_event in omega (arith, e)) (read bytes) ((small.ranges q).1.handed bytes before))
            (λ (now : Given bytes). subst (λ s. PayloadBelow whole.highest s (read bytes)) (sym one_event) (whole.handed bytes now))
            (Contains-append_cases (payloads_of (seen q)) (payloads_of (raft_events q w x)) bytes (subst (λ l. Contains l bytes) (flat_map-append event_payloads (seen q) (raft_events q w x)) c));
      }

    pub small_next : AreSmall (happens w x) (λ range. seen range ++ raft_events range w x)
    small_next = record {
      few = (let a = small.few in let b = ap length world_is in let c = length_with w x.node new in omega (arith, a, b, c));
      nodes = λ node z has. node_after (λ (i : ℕ) (y : Node). NodeBelow y) w x.node new new_below small.nodes node z (subst (λ v. node_of v node ≡ Some z) world_is has);
      ranges = λ q. (_, range_small q);
    }

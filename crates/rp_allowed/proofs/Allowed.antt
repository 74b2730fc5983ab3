-- What a replica's calls ask for holds in every reached world.
use Rattle.std.proofs.Common.{◌≡◌, ℕ, zero, suc, ◌+◌, ◌-◌, ◌*◌, ◌^◌, ◌<◌, ◌≤◌, Bool, true, false, cond, ltb, ltb-true, ltb-false, ⊎_elim, Option, None, Some, Result, Ok, Err, List, [], ◌∷◌, ◌++◌, length, refl, sym, ap, subst, ◌∙◌, arith}
use Rattle.std.specs.Prelude.{slice_get, All, Contains}
use Rattle.std.proofs.lemmas.List.Sums.{sum_by-cons, sum_by-append}
use Rattle.std.specs.Prelude.{IsOk}
use Rattle.std.specs.List.{AllByRecursion}
use Rattle.std.proofs.lemmas.Bool.{cond_both}
use Rattle.std.proofs.lemmas.List.Elements.{recursion_from_All}
use Rattle.rp_base.specs.Splits.{split_of}
use Rattle.rp_base.specs.Tables.{Table}
use Rattle.rp_base.specs.declared.ranges.Desc.{Desc}
use Rattle.rp_base.specs.declared.ranges.SplitFault.{SplitFault}
use Rattle.rp_base.specs.declared.ranges.SplitFault.TheVariants as faults
use Rattle.rp_codec.proofs.WorkedBytes.{nothing_read}
use Rattle.rp_raftlog.specs.declared.entries.Entry.{Entry}
use Rattle.rp_raftstep.specs.Step.{nothing}
use Rattle.rp_request.specs.Applicable.{MaySplit, Fits}
use Rattle.rp_request.specs.Applied.{command_verdict}
use Rattle.rp_request.specs.Effect.{Effect, effect, split}
use Rattle.rp_request.specs.declared.commands.Payload.{Payload}
use Rattle.rp_request.specs.declared.commands.Payload.TheVariants as payloads
use Rattle.rp_request.specs.declared.requests.Request.{Request}
use Rattle.rp_request.specs.declared.requests.Request.TheVariants as requests
use Rattle.rp_raftsafe.specs.Proposed.{WasProposed, payloads_of}
use Rattle.rp_rangesafe.specs.World as machine
use Rattle.rp_rangesafe.specs.World.{state_at}
use Rattle.rp_rangesafe.proofs.OneRange.{effect_at_place}
use Rattle.rp_events.specs.Applications.{decoded, payload_of, next_entry}
use Rattle.rp_events.specs.Allows.{MayApplyNext}
use Rattle.rp_seats.specs.Turned.{IsNext}
use Rattle.rp_raftlog.specs.LogState.{last_index, entry_at}
use Rattle.rp_raftstep.specs.Conditions.{CanRise, CanAppend}
use Rattle.rp_raftstep.specs.Step.{tick, received}
use Rattle.rp_request.specs.Applied.{AppliedState}
use Rattle.rp_raftsafe.specs.World as raft
use Rattle.rp_raftsafe.specs.Allowed.{IsAllowed, IsShort}
use Rattle.rp_raftsafe.specs.Bounds.{ReplicaBelow, event_weight, bound_after}
use Rattle.rp_raftsafe.specs.Safety.{OneList, IsShown, IsLive}
use Rattle.rp_raftsafe.proofs.Allow.{events_allowed_holds}
use Rattle.rp_raftsafe.proofs.Bounded.{bounded_holds}
use Rattle.rp_rangesafe.specs.Ranges.{Ranges}
use Rattle.rp_rangesafe.proofs.Joint.{range_reached}
use Rattle.rp_events.specs.Allows.{MayFlush, MayRefresh, MayDeliver, MayApply, MayCut}
use Rattle.rp_events.specs.Replicas.{Replica, lease_of}
use Rattle.rp_events.specs.Nodes.{Node, Live, seat, parcel_of}
use Rattle.rp_events.specs.Worlds.{World, node_of, sent_by}
use Rattle.rp_events.specs.Lawful.{IsReached}
use Rattle.rp_events.specs.Lists.{base_of}
use Rattle.rp_seats.specs.Standing.{Bound, RangeOk}
use Rattle.rp_seats.specs.Turned.{IsSeated}
use Rattle.rp_seats.specs.Views.{core, range_at, number_in}
use Rattle.rp_seats.proofs.Events as seat_events
use Rattle.rp_seats.proofs.Shown.{is_live}
use Rattle.rp_seats.proofs.Worlds.{message_seen}
use Rattle.rp_turns.specs.Fitting.{AreFit}
use Rattle.rp_turns.proofs.Seated.{has_opened, seated, below}
use Rattle.rp_bound.specs.Numbers as numbers
use Rattle.rp_bound.proofs.Along.{stands_fit}
use Rattle.rp_bound.proofs.Small.{replica_low}
use Rattle.rp_bound.proofs.Work.{sum_bounded, work_low}
use Rattle.rp_events.specs.declared.parcels.Parcel.{Parcel}
use Rattle.rp_journals.specs.Numbers.{IsWithin, IsLow}
use Rattle.rp_journals.proofs.Balancing.{seat_le, node_le}
use Rattle.rp_journals.proofs.Within.{all_within}
use Rattle.rp_journals.proofs.Bounding.{low}
use Rattle.rp_journals.proofs.Inboxes.{waiting_at, pending_long}
use Rattle.rp_low.specs.Weights.{weight_of, all_waiting}
use Rattle.rp_low.proofs.Rooms.{room_low}
use Rattle.rp_allowed.specs.Firm.{IsSpelled, IsFirm}

-- the entry that a leader makes of its own spells Nothing
spelled_nothing : IsSpelled nothing
spelled_nothing = record { payload = payloads.Nothing; is = nothing_read }

-- an item of a list of which all hold
all_at_place : {X : Type 0} (P : X → Type 0) (xs : List X) → All P xs → (place : ℕ) (x : X) → slice_get xs place ≡ Some x → P x
all_at_place {X} P xs all place x is = go xs (recursion_from_All P xs all) place is where
  some_is : (a b : X) → ◌≡◌ {A = Option X} (Some a) (Some b) → a ≡ b
  some_is a b e = cc

  go : (ys : List X) → AllByRecursion P ys → (place : ℕ) → slice_get ys place ≡ Some x → P x
  go [] h place e = absurd cc
  go (y ∷ ys) h zero e = subst P (some_is y x e) h.0
  go (y ∷ ys) h (suc place) e = go ys h.1 place e

-- a request that takes effect may split
splits : (t : Table) (d : Desc) (request : Request) (left : Effect) → effect t d request ≡ Ok left → MaySplit d request
splits t d (requests.Put key value) left e = tt
splits t d (requests.Add key by) left e = tt
splits t d (requests.CPut key expect value) left e = tt
splits t d (requests.Del key) left e = tt
splits t d (requests.Wipe span) left e = tt
splits t d (requests.Move from to by) left e = tt
splits t d (requests.Split key) left e = go (split_of d key) e where
  go : (x : Result (Desc × Desc) SplitFault) → split t key x ≡ Ok left → IsOk x
  go (Ok parts) e' = refl
  go (Err faults.NotInside) e' = absurd cc
  go (Err (faults.SplitLimit level)) e' = absurd cc

-- so many payloads
abbrev fill : ℕ → List (List ℕ)
fill zero = []
fill (suc k) = [] ∷ fill k

fill_long : (k : ℕ) → length (fill k) ≡ k
fill_long zero = refl
fill_long (suc k) = ap suc (fill_long k)

module _ (lists : OneList AppliedState) (nodes : ℕ) (w : World) (reached : IsReached nodes w) (firm : IsFirm lists w) where
  abbrev m : Ranges
  m = firm.ranges

  abbrev seen : ℕ → List raft.Event
  seen = firm.seen

  abbrev bound : Bound lists w m seen
  bound = firm.stands.bound

  fit : AreFit w
  fit = stands_fit lists w m seen firm.stands

  -- how much Raft has seen of a range, with what waits there
  weight_low : (range : ℕ) → range < 8 → weight_of (seen range) + all_waiting range w ≤ 6 * 2 ^ 60
  weight_low range is = let a = (firm.weighed range is).weighs in let b = room_low nodes w reached in omega (arith, a, b)

  work_below : numbers.all_work w < 2 ^ 64
  work_below =
      let a = sum_bounded numbers.work_of 2305843043573432448 w (λ place n e. work_low n (firm.stands.small.nodes (suc place) n e)) in
      let f = firm.stands.small.few in omega (arith, a, f)

  pub range_short : (range : ℕ) → m.opened range ≡ true → bound_after (range_at (length w) range (m.range range).start) (seen range) + 1 < 2 ^ 64
  range_short range open_there =
      let a = weight_low range (below lists w m seen bound fit range open_there) in
      let b = based range in
      omega (arith, a, b)
    where
      based : (k : ℕ) → base_of k ≤ 10
      based zero = omega arith
      based (suc k) = omega arith

  module _ (node range : ℕ) (n : Node) (r : Replica) (has : node_of w node ≡ Some n) (live : seat n range ≡ Live r) where
    there : m.opened range ≡ true
    there = has_opened lists w m seen bound fit node range n r has live

    range_low : range < 8
    range_low = below lists w m seen bound fit range there

    ok : RangeOk lists (length w) range (m.range range).start (seen range) w (m.range range)
    ok = bound.ranges range there

    at : IsSeated lists range (m.range range).start (seen range) w (m.range range) node n r
    at = seated lists w m seen bound fit node range n r has live

    abbrev g : raft.Range AppliedState
    g = range_at (length w) range (m.range range).start

    raft_live : IsLive (raft.world_after g (seen range)) node (core r)
    raft_live = is_live (length w) range (m.range range).start (lists g ok.is) (seen range) w (m.range range) ok.raft (range_reached m bound.reached range) node n has r live
        (seat_events.stands lists range (m.range range).start (seen range) w (m.range range) node n r at).stands.0

    shown : IsShown g ((lists g ok.is).committed (seen range)) (core r)
    shown = (lists g ok.is).shown (seen range) node (core r) raft_live

    allowed : IsAllowed g (seen range) node (core r)
    allowed = events_allowed_holds AppliedState g ok.is (seen range) node (core r) raft_live

    base_low : base_of range ≤ 10
    base_low = go range where
      go : (k : ℕ) → base_of k ≤ 10
      go zero = omega arith
      go (suc k) = omega arith

    bound_low : bound_after g (seen range) ≤ 11 + 6 * 2 ^ 60
    bound_low = let a = weight_low range range_low in let b = base_low in omega (arith, a, b)

    short : IsShort g (seen range)
    short = let a = bound_low in omega (arith, a)

    rise : CanRise r.raft
    rise = allowed.tick_fits short

    below_bound : ReplicaBelow (bound_after g (seen range)) (core r)
    below_bound = (bounded_holds AppliedState g (seen range)).replicas node (core r) raft_live

    -- what waits and what is pending there is little
    inbox_low : length r.inbox ≤ 6 * 2 ^ 60
    inbox_low =
        let a = weight_low range range_low in
        let b = node_le (λ (z : Node). waiting_at (seat z range)) w node n has in
        let c : waiting_at (seat n range) ≡ length r.inbox = ap waiting_at live in
        omega (arith, a, b, c)

    pending_low : length r.pending ≤ 2 ^ 31
    pending_low =
        let inside : IsWithin n = all_within nodes w reached node n has in
        let l : IsLow n = low nodes w reached node n has inside in
        let a = inside.pending in
        let b = inside.events in
        let c = l.journal in
        let d = seat_le pending_long n.seats range refl in
        let e : pending_long (seat n range) ≡ length r.pending = ap pending_long live in
        omega (arith, a, b, c, d, e)

    last_low : last_index r.raft.log < 11 + 6 * 2 ^ 60
    last_low = let a = below_bound.raft.last in let b = bound_low in omega (arith, a, b)

    numbers_low : (r.applied.state.lai ≤ (firm.stands.small.ranges range).0) × ((lease_of r).seq ≤ suc (numbers.events_of w))
    numbers_low = replica_low lists w m seen bound fit.ends firm.stands.small node range n r has live

    -- an event more with so many payloads
    short_more : (e : raft.Event) → event_weight e ≤ 2 + 2 ^ 31 → IsShort g (seen range ++ e ∷ [])
    short_more e few =
        let a = bound_low in
        let b = sum_by-append event_weight (seen range) (e ∷ []) in
        let c = sum_by-cons event_weight e [] in
        omega (arith, a, b, c, few)

    -- a tick, and the payloads behind it
    pub may_tick : MayRefresh r (tick r.raft)
    may_tick = record {
      rise = rise;
      last =
          let more = short_more (raft.Acts node (raft.Ticks (fill (length r.pending)))) (let a = fill_long (length r.pending) in let b = pending_low in omega (arith, a, b)) in
          let can : CanAppend (tick {S = AppliedState} r.raft).state (fill (length r.pending)) = allowed.tick_more (fill (length r.pending)) more in
          let long = fill_long (length r.pending) in
          omega (arith, can, long);
    }

    pub may_cut : MayCut r
    may_cut = record {
      rise = rise;
      behind = shown.based;
      within = let a = shown.applied_le in let b = shown.commit_le in omega (arith, a, b);
    }

    -- a message of the range that was sent to the node
    pub may_deliver : (from number : ℕ) (p : Parcel AppliedState) → parcel_of (sent_by w from) number ≡ Some p → p.range ≡ range → p.to ≡ node → MayDeliver r from p.message
    may_deliver from number p is own to =
        let at_site = message_seen range w from number p is own in
        let there_is : raft.message_of (raft.site (raft.world_after g (seen range)) from) (number_in range (sent_by w from) number) ≡ Some (node, p.message) =
        ap (λ (z : raft.World AppliedState). raft.message_of (raft.site z from) (number_in range (sent_by w from) number)) (sym ok.raft.raft) ∙ at_site ∙ ap (λ k. Some (k, p.message)) to in
        let fits = allowed.receive_fits from (number_in range (sent_by w from) number) p.message there_is short in
        let more = short_more (raft.Comes from (number_in range (sent_by w from) number) (fill (length r.pending))) (let a = fill_long (length r.pending) in let b = pending_low in omega (arith, a, b)) in
        let can : CanAppend (received r.raft from p.message).state (fill (length r.pending)) = allowed.receive_more from (number_in range (sent_by w from) number) p.message there_is (fill (length r.pending)) more in
        let long = fill_long (length r.pending) in
        record {
          refresh = record { rise = rise; last = omega (arith, can, long) };
          fits = fits.1;
        }

    pub may_flush : MayFlush r
    may_flush = record {
      assigned =
          let range_is = (firm.stands.small.ranges range).1 in
          let seat_is : numbers.ReplicaBelow (firm.stands.small.ranges range).0 (numbers.events_of w) (n.ticks + 40) (length n.requests) r =
          subst (numbers.StatusBelow (firm.stands.small.ranges range).0 (numbers.events_of w) (n.ticks + 40) (length n.requests)) live (range_is.seats node n has) in
          let a = seat_is.assigned in
          let b = numbers_low.0 in
          let c = range_is.room in
          let d = node_le (λ (z : Node). numbers.items_in (seat z range)) w node n has in
          let e : numbers.items_in (seat n range) ≡ length r.inbox = ap numbers.items_in live in
          let f = work_below in
          omega (arith, a, b, c, d, e, f);
      rise = rise;
      last = let a = last_low in let b = inbox_low in omega (arith, a, b);
    }

    events_low : numbers.events_of w ≤ 5 * 2 ^ 31
    events_low =
        let a = sum_bounded (λ (z : Node). length z.journal) (2 ^ 31) w (λ place z e. (firm.stands.small.nodes (suc place) z e).journal) in
        let f = firm.stands.small.few in omega (arith, a, f)

    -- the next entry carries a payload
    spelled_entry : (e : Entry) → WasProposed (seen range) e.payload → IsSpelled e.payload
    spelled_entry e was = ⊎_elim
        (λ (none : e.payload ≡ nothing). subst IsSpelled (sym none) spelled_nothing)
        (λ (c : Contains (payloads_of (seen range)) e.payload). firm.spelled range e.payload c)
        was

    listed : (place : ℕ) (e : Entry) → slice_get ((lists g ok.is).committed (seen range)) place ≡ Some e → IsSpelled e.payload
    listed place e is = spelled_entry e (all_at_place (λ (z : Entry). WasProposed (seen range) z.payload) ((lists g ok.is).committed (seen range)) ((lists g ok.is).proposed (seen range)) place e is)

    -- a taken split splits
    abbrev h : machine.World
    h = m.range range

    state_here : state_at h (h.index node) ≡ r.applied.state
    state_here = seat_events.state lists range (m.range range).start (seen range) w (m.range range) node n r at

    fits_next : (p : Payload) → payload_of (next_entry r) ≡ Some p → Fits r.applied.state p
    fits_next payloads.Nothing is = tt
    fits_next (payloads.Lease ask) is = tt
    fits_next (payloads.Write c) is = λ took.
        let next : IsNext h node (payloads.Write c) = seat_events.next lists range (m.range range).start (seen range) w (m.range range) node n r at (payloads.Write c) is in
        let does = effect_at_place h (range_reached m bound.reached range) c.id (h.index node) c (record {
          within = next.within;
          takes = record { here = next.entry_is; taken = ap (λ (z : AppliedState). command_verdict z c) state_here ∙ took };
          named = refl;
        }) in
        let takes : effect r.applied.state.table r.applied.state.desc c.request ≡ Ok does.left = ap (λ (z : AppliedState). effect z.table z.desc c.request) (sym state_here) ∙ does.takes in
        splits r.applied.state.table r.applied.state.desc c.request does.left takes

    -- the list's entry behind the applied index
    behind : r.applied.index < r.raft.head.commit → entry_at r.raft.log (r.applied.index + 1) ≡ slice_get ((lists g ok.is).committed (seen range)) (h.index node)
    behind under =
        let stands : h.index node + base_of range ≡ r.applied.index = (seat_events.stands lists range (m.range range).start (seen range) w (m.range range) node n r at).stands.0 in
        let based = shown.based in
        shown.entries (r.applied.index + 1) (omega (arith, based)) (omega (arith, under))
        ∙ cond_both (ltb (base_of range) (r.applied.index + 1)) (slice_get ((lists g ok.is).committed (seen range)) (r.applied.index + 1 - base_of range - 1)) None (λ z. z ≡ slice_get ((lists g ok.is).committed (seen range)) (h.index node))
        (λ _. ap (slice_get ((lists g ok.is).committed (seen range))) (let e : r.applied.index + 1 - base_of range - 1 ≡ h.index node = omega (arith, stands) in e))
        (λ past. absurd (omega (arith, stands, ltb-false (base_of range) (r.applied.index + 1) past)))

    pub may_apply : MayApply r
    may_apply = record {
      index = let a = below_bound.applied in let b = bound_low in omega (arith, a, b);
      seq = let a = numbers_low.1 in let b = events_low in omega (arith, a, b);
      next = go (next_entry r) refl;
    } where
      go : (o : Option Entry) → next_entry r ≡ o → MayApplyNext r o
      go None is = tt
      go (Some e) is =
          let s : IsSpelled e.payload = spelled_next e is in
          let carries : payload_of (Some e) ≡ Some s.payload = ap decoded s.is in
          record { payload = s.payload; carries = carries; split = fits_next s.payload (ap payload_of is ∙ carries) }
        where
          spelled_next : (e : Entry) → next_entry r ≡ Some e → IsSpelled e.payload
          spelled_next e is' = by_test (ltb r.applied.index r.raft.head.commit) refl is' where
            by_test : (b : Bool) → ltb r.applied.index r.raft.head.commit ≡ b → cond b (entry_at r.raft.log (r.applied.index + 1)) None ≡ Some e → IsSpelled e.payload
            by_test true below is'' = listed (h.index node) e
                (sym (behind (ltb-true r.applied.index r.raft.head.commit below)) ∙ is'')
            by_test false past is'' = absurd cc

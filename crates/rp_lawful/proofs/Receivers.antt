-- Each message of a reached world is for one of its nodes.
use Rattle.std.proofs.Common.{◌≡◌, ⊎_elim, ℕ, zero, suc, ◌<◌, ◌≤◌, Bool, true, false, Option, Some, List, [], ◌∷◌, ◌++◌, length, map, refl, sym, ap, subst, ◌∙◌, arith}
use Rattle.std.specs.Prelude.{Contains, nat_lt, nat_le, ◌&&◌}
use Rattle.std.specs.Option.{option_map_or}
use Rattle.std.proofs.lemmas.Bool.{and_parts, ltb-true, leb-true}
use Rattle.std.proofs.lemmas.List.Elements.{Contains-append_cases}
use Rattle.std.proofs.lemmas.Grind.{flat_map-append}
use Rattle.rp_raftstep.specs.RaftState.{nodes_to}
use Rattle.rp_request.specs.Applied.{AppliedState}
use Rattle.rp_request.specs.States.{first_applied}
use Rattle.rp_raftsafe.specs.World as raft
use Rattle.rp_raftsafe.specs.Safety.{OneList}
use Rattle.rp_raftsafe.specs.Proposed.{event_payloads, payloads_of}
use Rattle.rp_raftsafe.proofs.Known.{one_list_holds}
use Rattle.rp_rangesafe.specs.Ranges.{Ranges}
use Rattle.rp_script.specs.Bounds.{IsNode}
use Rattle.rp_events.specs.declared.node_events.Event.{Event}
use Rattle.rp_events.specs.declared.parcels.Parcel.{Parcel}
use Rattle.rp_events.specs.declared.replica_events.ReplicaEvent.TheVariants.{Ask}
use Rattle.rp_events.specs.Replicas.{Replica}
use Rattle.rp_events.specs.Nodes as nodes
use Rattle.rp_events.specs.Nodes.{Node, Status, Absent, Live, seat, first_node, parcel_of}
use Rattle.rp_events.specs.NodeEvents.{step}
use Rattle.rp_events.specs.Worlds as worlds
use Rattle.rp_events.specs.Worlds.{World, Happening, Scene, Schedule, first_world, node_of, with_node, sent_by, delivery, event_of, taken_in, happens, run}
use Rattle.rp_events.specs.Lawful.{Lawful, AllLawful, IsReached, is_allowed}
use Rattle.rp_seats.specs.Scenes.{node_doings, as_event, scene_doings, raft_events}
use Rattle.rp_seats.specs.Views.{core, core_of, view, range_at, number_in}
use Rattle.rp_seats.proofs.Opens.{first_is}
use Rattle.rp_seats.proofs.Worlds.{site_seen, message_seen}
use Rattle.rp_turns.proofs.Kept.{first_wide}
use Rattle.rp_turns.proofs.Seated.{has_opened}
use Rattle.rp_bound.specs.Bounds.{Stands, StandsNext, first_seen}
use Rattle.rp_bound.proofs.Along.{stands_next, stands_fit}
use Rattle.rp_bound.proofs.First.{first_ranges, first_bound}
use Rattle.rp_bound.proofs.Starts.{none_handed, first_small}
use Rattle.rp_journals.proofs.Growing.{one_node, with_same, with_other, scene_grows}
use Rattle.rp_journals.proofs.Reading.{mapped_some}
use Rattle.rp_journals.proofs.Elsewhere.{event_some, lawful_node, happens_is}
use Rattle.std.proofs.lemmas.Bool.{cases_eq}
use Rattle.rp_lawful.proofs.Buffers.{get_same}
use Rattle.rp_lawful.proofs.Addressed.{addressed, live_in}
use Rattle.rp_turns.proofs.Homes.{HomeStatus, AllHome, MaySeat, MayAct, may_admit, acted_home}
use Rattle.rp_lawful.proofs.HomeHands.{ReadsHome, node_handed}
use Rattle.rp_lawful.proofs.HomeStates.{holder_home}

-- what stands beside a world, with asks for its nodes alone in its replicas and in what was handed to Raft
pub record HasHomes (lists : OneList AppliedState) (w : World) : Type 0 where
  pub ranges : Ranges
  pub seen : ℕ → List raft.Event
  pub stands : Stands lists w ranges seen
  pub some : 1 ≤ length w
  pub homes : (node : ℕ) (n : Node) → node_of w node ≡ Some n → AllHome (length w) n
  pub handed : (range : ℕ) (bytes : List ℕ) → Contains (payloads_of (seen range)) bytes → ReadsHome (length w) bytes

some_event : (a b : Event AppliedState) → ◌≡◌ {A = Option (Event AppliedState)} (Some a) (Some b) → a ≡ b
some_event a b e = cc

module _ (lists : OneList AppliedState) (w : World) (h : HasHomes lists w) where
  -- a live replica knows its own number
  own_node : (node at : ℕ) (n : Node) (r : Replica) → node_of w node ≡ Some n → seat n at ≡ Live r → IsNode (length w) r.raft.head.node
  own_node node at n r has live =
      let there = has_opened lists w h.ranges h.seen h.stands.bound (stands_fit lists w h.ranges h.seen h.stands) node at n r has live in
      let ok = h.stands.bound.ranges at there in
      let g : raft.Range AppliedState = range_at (length w) at (h.ranges.range at).start in
      let holder : IsNode g.nodes g.holder = holder_home (length w) h.some lists w h.ranges h.seen h.stands.bound h.handed at there in
      let status : (raft.site (raft.world_after g (h.seen at)) node).status ≡ raft.Live (core r) =
      ap (λ (z : raft.World AppliedState). (raft.site z node).status) (sym ok.raft.raft) ∙ ap (λ (z : raft.Site AppliedState). z.status) (site_seen at w node n has) ∙ ap core_of live in
      (live_in g holder (h.seen at) node (core r) status).node

  some_node : (to : ℕ) → (nat_lt 0 to && nat_le to (length w)) ≡ true → IsNode (length w) to
  some_node to e = let k = and_parts (nat_lt 0 to) (nat_le to (length w)) e in (ltb-true 0 to k.0, leb-true to (length w) k.1)

  -- what a lawful event asks
  may_act : (node : ℕ) (n : Node) → node_of w node ≡ Some n → (what : Happening) → is_allowed w node what ≡ true → (ev : Event AppliedState) → event_of w what ≡ Some ev → MayAct (length w) n ev
  may_act node n has (worlds.Admit range id request) al ev came = subst (MayAct (length w) n) (some_event _ ev came) (may_admit (length w) id request (seat n range))
  may_act node n has (worlds.Ask range) al ev came = subst (MayAct (length w) n) (some_event _ ev came) (by_seat (seat n range) refl) where
    by_seat : (status : Status) → seat n range ≡ status → MaySeat (length w) Ask status
    by_seat Absent is = tt
    by_seat (Live r) is = own_node node range n r has is
    by_seat (nodes.Removed applied) is = tt
  may_act node n has (worlds.Transfer range to) al ev came = subst (MayAct (length w) n) (some_event _ ev came) (some_node to al)
  may_act node n has (worlds.Collect range taken) al ev came = subst (MayAct (length w) n) (some_event _ ev came) tt
  may_act node n has (worlds.Flush range) al ev came = subst (MayAct (length w) n) (some_event _ ev came) tt
  may_act node n has worlds.Tick al ev came = subst (MayAct (length w) n) (some_event _ ev came) tt
  may_act node n has (worlds.Deliver from number) al ev came =
      let x = mapped_some (delivery from number) (parcel_of (sent_by w from) number) ev came in
      subst (MayAct (length w) n) x.2 tt
  may_act node n has (worlds.Apply range) al ev came = subst (MayAct (length w) n) (some_event _ ev came) tt
  may_act node n has (worlds.Cut range) al ev came = subst (MayAct (length w) n) (some_event _ ev came) tt
  may_act node n has (worlds.Remove range) al ev came = subst (MayAct (length w) n) (some_event _ ev came) tt
  may_act node n has (worlds.Peek range key) al ev came = subst (MayAct (length w) n) (some_event _ ev came) tt
  may_act node n has worlds.Restart al ev came = subst (MayAct (length w) n) (some_event _ ev came) tt
  may_act node n has worlds.Round al ev came = subst (MayAct (length w) n) (some_event _ ev came) tt

  homes_next : (x : Scene) → Lawful w x → HasHomes lists (happens w x)
  homes_next x l =
      let next : StandsNext lists w h.ranges h.seen x = stands_next lists w h.ranges h.seen h.stands x l in
      let f = lawful_node w x l.lawful in
      let e = event_some w x.node x.what f.2 in
      let new : Node = (step f.0 e.0 (taken_in x.what)).node in
      let size : length (happens w x) ≡ length w = (scene_grows w x).size in
      let doings = λ (range : ℕ). ap (λ o. option_map_or (scene_doings range w x) o []) f.1 ∙ ap (λ o. option_map_or (λ z. node_doings range f.0 z (taken_in x.what)) o []) e.1 in
      let is : happens w x ≡ with_node w x.node new = happens_is w x f.0 e.0 f.1 e.1 in
      record {
        ranges = next.ranges;
        seen = λ range. h.seen range ++ raft_events range w x;
        stands = next.stands;
        some = let one = h.some in omega (arith, one, size);
        homes = λ node k has. subst (λ many. AllHome many k) (sym size) (⊎_elim
            (λ (same : node ≡ x.node).
            subst (AllHome (length w)) (one_node (with_node w x.node new) x.node new k (with_same w x.node f.0 new f.1) (subst (λ z. node_of z x.node ≡ Some k) is (subst (λ z. node_of (happens w x) z ≡ Some k) same has)))
            (acted_home (length w) f.0 e.0 (taken_in x.what) (may_act x.node f.0 f.1 x.what f.2 e.0 e.1) (h.homes x.node f.0 f.1)))
            (λ (ne : node ≡ x.node → ⊥). h.homes node k (sym (with_other w x.node new node ne) ∙ subst (λ z. node_of z node ≡ Some k) is has))
            (cases_eq node x.node));
        handed = λ range bytes c. subst (λ many. ReadsHome many bytes) (sym size) (⊎_elim
            (λ (was : Contains (payloads_of (h.seen range)) bytes). h.handed range bytes was)
            (λ (then : Contains (payloads_of (raft_events range w x)) bytes).
            node_handed (length w) w h.stands.bound.shaped (stands_fit lists w h.ranges h.seen h.stands) x.node f.0 f.1 (h.homes x.node f.0 f.1) range bytes e.0 (taken_in x.what)
            (subst (λ ds. Contains (payloads_of (map (as_event range w x.node) ds)) bytes) (doings range) then))
            (Contains-append_cases (payloads_of (h.seen range)) (payloads_of (raft_events range w x)) bytes (subst (λ l. Contains l bytes) (flat_map-append event_payloads (h.seen range) (raft_events range w x)) c)));
      }

  -- a message is for a node
  sent_to_node : (sender number : ℕ) (p : Parcel AppliedState) → parcel_of (sent_by w sender) number ≡ Some p → IsNode (length w) p.to
  sent_to_node sender number p is = go (h.ranges.opened p.range) refl where
    seen_message : raft.message_of (raft.site (view p.range w) sender) (number_in p.range (sent_by w sender) number) ≡ Some (p.to, p.message)
    seen_message = message_seen p.range w sender number p is refl

    go : (b : Bool) → h.ranges.opened p.range ≡ b → IsNode (length w) p.to
    go true there =
        let ok = h.stands.bound.ranges p.range there in
        let g : raft.Range AppliedState = range_at (length w) p.range (h.ranges.range p.range).start in
        addressed g (holder_home (length w) h.some lists w h.ranges h.seen h.stands.bound h.handed p.range there) (h.seen p.range) sender (number_in p.range (sent_by w sender) number) (p.to, p.message)
        (ap (λ (z : raft.World AppliedState). raft.message_of (raft.site z sender) (number_in p.range (sent_by w sender) number)) (sym ok.raft.raft) ∙ seen_message)
    go false shut =
        let s = h.stands.bound.shut p.range shut in
        addressed (range_at (length w) p.range first_applied) (omega arith, h.some) [] sender (number_in p.range (sent_by w sender) number) (p.to, p.message)
        (ap (λ (z : raft.World AppliedState). raft.message_of (raft.site z sender) (number_in p.range (sent_by w sender) number)) (sym s.view_is) ∙ seen_message)

module _ (lists : OneList AppliedState) where
  homes_run : (xs : Schedule) (w : World) → AllLawful w xs → HasHomes lists w → HasHomes lists (run w xs)
  homes_run [] w lawful h = h
  homes_run (x ∷ xs) w lawful h = homes_run xs (happens w x) lawful.1 (homes_next lists w h x lawful.0)

  handed_first : (nodes range : ℕ) (bytes : List ℕ) → Contains (payloads_of (first_seen nodes range)) bytes → ⊥
  handed_first nodes zero bytes c = none_handed (nodes_to nodes) bytes c
  handed_first nodes (suc range) bytes c = omega (arith, c.1)

  first_homes : (nodes : ℕ) → 0 < nodes → nodes ≤ 5 → length (first_world nodes) ≡ nodes → HasHomes lists (first_world nodes)
  first_homes nodes some few size = record {
    ranges = first_ranges lists nodes some few;
    seen = first_seen nodes;
    stands = record {
      bound = first_bound lists nodes some few;
      wide = first_wide nodes few (first_seen nodes) (handed_first nodes);
      small = first_small nodes few;
    };
    some = omega (arith, some, size);
    homes = λ node n has range. subst (λ (z : Node). HomeStatus (length (first_world nodes)) (seat z range)) (sym (first_is nodes few node n has)) (each node range);
    handed = λ range bytes c. absurd (handed_first nodes range bytes c);
  } where
    each : (node range : ℕ) → HomeStatus (length (first_world nodes)) (seat (first_node node nodes) range)
    each node zero = record { inbox = tt; asks = tt }
    each node (suc place) = subst (HomeStatus (length (first_world nodes))) (sym (get_same 7 Absent place)) tt

-- it stands beside each reached world
pub reached_homes : (nodes : ℕ) (w : World) → IsReached nodes w → length (first_world nodes) ≡ nodes → HasHomes (one_list_holds AppliedState) w
reached_homes nodes w r first =
    subst (HasHomes (one_list_holds AppliedState)) r.reached (homes_run (one_list_holds AppliedState) r.schedule (first_world nodes) r.lawful (first_homes (one_list_holds AppliedState) nodes (ltb-true 0 nodes r.some) (leb-true nodes 5 r.few) first))

-- each message of a reached world is for one of its nodes
pub receiver : (nodes : ℕ) (w : World) → IsReached nodes w → length (first_world nodes) ≡ nodes → length w ≡ nodes → (sender number : ℕ) (parcel : Parcel AppliedState) → parcel_of (sent_by w sender) number ≡ Some parcel → IsNode nodes parcel.to
receiver nodes w r first size sender number parcel is =
    subst (λ many. IsNode many parcel.to) size (sent_to_node (one_list_holds AppliedState) w (reached_homes nodes w r first) sender number parcel is)

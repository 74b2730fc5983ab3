-- A scene of the nodes, as one range sees it, is the run of its Raft events.
use Rattle.std.proofs.Common.{◌≡◌, ℕ, zero, suc, ◌+◌, ◌<◌, Bool, true, false, cond, eqb, Option, None, Some, List, [], ◌∷◌, ◌++◌, length, map, take, set, refl, sym, ap, subst, ◌∙◌, arith, ⊎_elim, eqb-true, eq-eqb, get_or-set_same}
use Rattle.std.specs.Prelude.{slice_get, not, ◌&&◌, ◌==◌, IsTrue}
use Rattle.std.specs.Option.{option_map, option_map_or}
use Rattle.std.proofs.lemmas.Bool.{cond_both, ne_eqb, cases_eq}
use Rattle.std.proofs.lemmas.List.{length-map, map-set, set-get_or}
use Rattle.std.proofs.lemmas.List.Sums.{sum_by-cons}
use Rattle.std.proofs.lemmas.Option.{slice_get_within}
use Rattle.rp_base.specs.declared.items.Item.{Item}
use Rattle.rp_raftstep.specs.declared.messages.Message.{Message}
use Rattle.rp_request.specs.Applied.{AppliedState}
use Rattle.rp_raftsafe.specs.World as raft
use Rattle.rp_events.specs.declared.parcels.Parcel.{Parcel}
use Rattle.rp_events.specs.declared.node_events.Event.{Event}
use Rattle.rp_events.specs.declared.node_events.Event.TheVariants as events
use Rattle.rp_events.specs.declared.replica_events.ReplicaEvent.{ReplicaEvent}
use Rattle.rp_events.specs.declared.replica_events.ReplicaEvent.TheVariants.{Admit, Ask, Transfer, Collect, Flush, Tick, Deliver, Apply, Cut, Remove, Peek, Restart}
use Rattle.rp_events.specs.Replicas.{Replica, Done}
use Rattle.rp_events.specs.ReplicaEvents.{event}
use Rattle.rp_request.specs.declared.commands.Payload.{Payload}
use Rattle.rp_events.specs.Applications.{payload_of, next_entry}
use Rattle.rp_events.specs.Nodes.{Node, Status, Absent, Live, Removed, seat, parcel_of, is_full, range_numbers}
use Rattle.rp_events.specs.NodeEvents.{live_turn, step}
use Rattle.rp_events.specs.Worlds as worlds
use Rattle.rp_events.specs.Worlds.{World, Scene, Happening, node_of, with_node, sent_by, delivery, event_of, taken_in, after_step, happens_at, happens}
use Rattle.rp_events.specs.Lawful.{is_allowed, is_lawful}
use Rattle.rp_seats.specs.Views.{sent_of, number_in, site_of, view, range_at}
use Rattle.rp_seats.specs.Scenes.{Doing, Acts, Gets, Starts, site_after, applying, doings_of, starting, seat_doings, all_doings, message_doings, node_doings, as_event, scene_doings, doings_in, raft_events, StartsIn}
use Rattle.rp_seats.specs.Standing.{AreShaped}
use Rattle.rp_seats.proofs.Nodes.{node_site}

-- a list with a place that was changed twice
set_twice : {X : Type 0} (xs : List X) (i : ℕ) (a b : X) → set (set xs i a) i b ≡ set xs i b
set_twice [] i a b = refl
set_twice (x ∷ xs) zero a b = refl
set_twice (x ∷ xs) (suc i) a b = ap (λ ys. x ∷ ys) (set_twice xs i a b)

-- a message's number among those of its range
parcel_is : (range : ℕ) (sent : List (Parcel AppliedState)) (i : ℕ) (p : Parcel AppliedState) → slice_get sent i ≡ Some p → p.range ≡ range
    → (j : ℕ) × (number_in range sent (suc i) ≡ suc j) × (slice_get (sent_of range sent) j ≡ Some (p.to, p.message))
parcel_is range [] i p at own = absurd (none_some at)
  where
    none_some : ◌≡◌ {A = Option (Parcel AppliedState)} None (Some p) → ⊥
    none_some e = cc
parcel_is range (x ∷ sent) zero p at own =
    let same : x ≡ p = some_same at in
    let own' : eqb x.range range ≡ true = eq-eqb x.range range (ap (λ z. z.range) same ∙ own) in (
      0,
      sum_by-cons (λ z. cond (eqb z.range range) 1 0) x [] ∙ ap (λ z. cond z 1 0 + 0) own',
      ap (λ z. slice_get (cond z ((x.to, x.message) ∷ sent_of range sent) (sent_of range sent)) 0) own' ∙ ap (λ z. Some (z.to, z.message)) same,
    )
  where
    some_same : ◌≡◌ {A = Option (Parcel AppliedState)} (Some x) (Some p) → x ≡ p
    some_same e = cc
parcel_is range (x ∷ sent) (suc i) p at own =
    let rest = parcel_is range sent i p at own in
    let counted : number_in range (x ∷ sent) (suc (suc i)) ≡ cond (eqb x.range range) 1 0 + number_in range sent (suc i) = sum_by-cons (λ z. cond (eqb z.range range) 1 0) x (take (suc i) sent) in
    ⊎_elim
    (λ (mine : x.range ≡ range).
    let e : eqb x.range range ≡ true = eq-eqb x.range range mine in (
      suc rest.0,
      counted ∙ ap (λ z. cond z 1 0 + number_in range sent (suc i)) e ∙ omega (arith, rest.1),
      ap (λ z. slice_get (cond z ((x.to, x.message) ∷ sent_of range sent) (sent_of range sent)) (suc rest.0)) e ∙ rest.2,
    ))
    (λ (other : x.range ≡ range → ⊥).
    let e : eqb x.range range ≡ false = ne_eqb x.range range other in (
      rest.0,
      counted ∙ ap (λ z. cond z 1 0 + number_in range sent (suc i)) e ∙ omega (arith, rest.1),
      ap (λ z. slice_get (cond z ((x.to, x.message) ∷ sent_of range sent) (sent_of range sent)) rest.0) e ∙ rest.2,
    ))
    (cases_eq x.range range)

-- what a range sees of a node's sent list
sent_seen : (range : ℕ) (w : World) (from : ℕ) → (raft.site (view range w) from).sent ≡ sent_of range (sent_by w from)
sent_seen range w zero = refl
sent_seen range w (suc place) = at w place where
  at : (w : World) (place : ℕ) → (raft.site (view range w) (suc place)).sent ≡ sent_of range (sent_by w (suc place))
  at [] place = refl
  at (n ∷ w) zero = refl
  at (n ∷ w) (suc place) = at w place

pub message_seen : (range : ℕ) (w : World) (from number : ℕ) (p : Parcel AppliedState) → parcel_of (sent_by w from) number ≡ Some p → p.range ≡ range
    → raft.message_of (raft.site (view range w) from) (number_in range (sent_by w from) number) ≡ Some (p.to, p.message)
message_seen range w from zero p at own = absurd (none_some at)
  where
    none_some : ◌≡◌ {A = Option (Parcel AppliedState)} None (Some p) → ⊥
    none_some e = cc
message_seen range w from (suc i) p at own =
    let is = parcel_is range (sent_by w from) i p at own in
    ap (raft.message_of (raft.site (view range w) from)) is.1 ∙ ap (λ z. slice_get z is.0) (sent_seen range w from) ∙ is.2

-- a node of the world is a site of the view
pub view_with : (range : ℕ) (w : World) (node : ℕ) (n : Node) → view range (with_node w node n) ≡ raft.with_site (view range w) node (site_of range n)
view_with range w zero n = refl
view_with range w (suc place) n = map-set (site_of range) w place n

pub site_seen : (range : ℕ) (w : World) (node : ℕ) (n : Node) → node_of w node ≡ Some n → raft.site (view range w) node ≡ site_of range n
site_seen range w zero n e = absurd (none_some e)
  where
    none_some : ◌≡◌ {A = Option Node} None (Some n) → ⊥
    none_some e = cc
site_seen range w (suc place) n e = at w place e where
  at : (w : World) (place : ℕ) → node_of w (suc place) ≡ Some n → raft.site (view range w) (suc place) ≡ site_of range n
  at [] place e = absurd cc
  at (m ∷ w) zero e = ap (site_of range) (some_same m n e) where
    some_same : (a b : Node) → ◌≡◌ {A = Option Node} (Some a) (Some b) → a ≡ b
    some_same a b e = cc
  at (m ∷ w) (suc place) e = at w place e

pub same_site : (w : raft.World AppliedState) (node : ℕ) → raft.with_site w node (raft.site w node) ≡ w
same_site w zero = refl
same_site w (suc place) = set-get_or w place (record { status = raft.Absent; sent = [] })

-- no message comes
abbrev Plain : List Doing → Type 0
Plain [] = Unit {0}
Plain (Acts action ∷ ds) = Plain ds
Plain (Gets from number m again ∷ ds) = ⊥
Plain (Starts s ∷ ds) = Plain ds

plain_further : (ds es : List Doing) → Plain ds → Plain es → Plain (ds ++ es)
plain_further [] es p q = q
plain_further (Acts action ∷ ds) es p q = plain_further ds es p q
plain_further (Gets from number m again ∷ ds) es p q = absurd p
plain_further (Starts s ∷ ds) es p q = plain_further ds es p q

plain_starting : (range : ℕ) (o : Option AppliedState) → Plain (starting range o)
plain_starting range None = tt
plain_starting range (Some s) = cond_both (eqb s.desc.id range) (Starts s ∷ []) [] Plain (λ _. tt) (λ _. tt)

plain_applying : (o : Option Payload) → Plain (applying o)
plain_applying None = tt
plain_applying (Some p) = tt

abbrev IsNoMessage : ReplicaEvent AppliedState → Type 0
IsNoMessage (Deliver from m) = ⊥
IsNoMessage _ = Unit {0}

plain_of : (number : ℕ) (r : Replica) (e : ReplicaEvent AppliedState) (proposed : List (List ℕ)) → IsNoMessage e → Plain (doings_of number r e proposed)
plain_of number r (Admit id request) proposed k = tt
plain_of number r Ask proposed k = tt
plain_of number r (Transfer to) proposed k = tt
plain_of number r Collect proposed k = tt
plain_of number r Flush proposed k = tt
plain_of number r Tick proposed k = tt
plain_of number r (Deliver from m) proposed k = absurd k
plain_of number r Apply proposed k = plain_applying (payload_of (next_entry r))
plain_of number r Cut proposed k = tt
plain_of number r Remove proposed k = tt
plain_of number r (Peek key) proposed k = tt
plain_of number r Restart proposed k = tt

plain_seat : (range : ℕ) (n : Node) (at number : ℕ) (e : ReplicaEvent AppliedState) (taken : List Item) → IsNoMessage e → (status : Status) → Plain (seat_doings range n at number e taken status)
plain_seat range n at number e taken k Absent = tt
plain_seat range n at number e taken k (Live r) =
    let d : Done = event r e n.ticks n.rounds taken in
    plain_further (cond (eqb at range) (doings_of number r e d.proposed) []) (starting range d.right)
    (cond_both (eqb at range) (doings_of number r e d.proposed) [] Plain (λ _. plain_of number r e d.proposed k) (λ _. tt)) (plain_starting range d.right)
plain_seat range n at number e taken k (Removed applied) = tt

plain_all : (range : ℕ) (e : ReplicaEvent AppliedState) → IsNoMessage e → (n : Node) (ranges : List ℕ) → Plain (all_doings range e n ranges)
plain_all range e k n [] = tt
plain_all range e k n (at ∷ more) =
    plain_further (seat_doings range n at 0 e [] (seat n at)) (all_doings range e (live_turn e n at (seat n at)) more)
    (plain_seat range n at 0 e [] k (seat n at)) (plain_all range e k (live_turn e n at (seat n at)) more)

module _ (range : ℕ) (start : AppliedState) (w : World) (node : ℕ) where
  abbrev g : raft.Range AppliedState
  g = range_at (length w) range start

  abbrev seen : raft.World AppliedState
  seen = view range w

  abbrev after : List Doing → raft.Site AppliedState → raft.Site AppliedState
  after ds site = site_after (length w) range start node ds site

  -- the message stands among what its sender has sent, and is for the node
  abbrev pub IsSent : (from number : ℕ) → Message AppliedState → Type 0
  IsSent from number m = raft.message_of (raft.site seen from) (number_in range (sent_by w from) number) ≡ Some (node, m)

  -- a message comes first, if at all
  abbrev Heads : List Doing → Type 0
  Heads [] = Unit {0}
  Heads (Acts action ∷ ds) = Plain ds
  Heads (Gets from number m again ∷ ds) = IsSent from number m × Plain ds
  Heads (Starts s ∷ ds) = Plain ds

  plain_heads : (ds : List Doing) → Plain ds → Heads ds
  plain_heads [] p = tt
  plain_heads (Acts action ∷ ds) p = p
  plain_heads (Gets from number m again ∷ ds) p = absurd p
  plain_heads (Starts s ∷ ds) p = p

  module _ (place : ℕ) (is : node ≡ suc place) (within : place < length seen) where
    there : (s : raft.Site AppliedState) → raft.site (raft.with_site seen node s) node ≡ s
    there s = subst (λ k. raft.site (raft.with_site seen k s) k ≡ s) (sym is) (get_or-set_same seen place s (record { status = raft.Absent; sent = [] }) within)

    twice : (s t : raft.Site AppliedState) → raft.with_site (raft.with_site seen node s) node t ≡ raft.with_site seen node t
    twice s t = subst (λ k. raft.with_site (raft.with_site seen k s) k t ≡ raft.with_site seen k t) (sym is) (set_twice seen place s t)

    act_there : (action : raft.Action) (s : raft.Site AppliedState)
        → raft.happens g (raft.with_site seen node s) (raft.Acts node action) ≡ raft.with_site seen node (raft.after_turn s (raft.acts g node action s.status))
    act_there action s =
        ap (λ z. raft.with_site (raft.with_site seen node s) node (raft.after_turn z (raft.acts g node action z.status))) (there s)
        ∙ twice s (raft.after_turn s (raft.acts g node action s.status))

    run_plain : (ds : List Doing) → Plain ds → StartsIn start ds → (s : raft.Site AppliedState)
        → raft.run g (map (as_event range w node) ds) (raft.with_site seen node s) ≡ raft.with_site seen node (after ds s)
    run_plain [] p k s = refl
    run_plain (Acts action ∷ ds) p k s =
        ap (raft.run g (map (as_event range w node) ds)) (act_there action s)
        ∙ run_plain ds p k (raft.after_turn s (raft.acts g node action s.status))
    run_plain (Gets from number m again ∷ ds) p k s = absurd p
    run_plain (Starts t ∷ ds) p k s =
        ap (raft.run g (map (as_event range w node) ds)) (act_there raft.Begin s
        ∙ ap (λ z. raft.with_site seen node (raft.after_turn s (raft.acts (range_at (length w) range z) node raft.Begin s.status))) (sym k.0))
        ∙ run_plain ds p k.1 (raft.after_turn s (raft.acts (range_at (length w) range t) node raft.Begin s.status))

    run_from : (ds : List Doing) → Plain ds → StartsIn start ds
        → raft.run g (map (as_event range w node) ds) seen ≡ raft.with_site seen node (after ds (raft.site seen node))
    run_from ds p k =
        ap (raft.run g (map (as_event range w node) ds)) (sym (same_site seen node)) ∙ run_plain ds p k (raft.site seen node)

    run_heads : (ds : List Doing) → Heads ds → StartsIn start ds
        → raft.run g (map (as_event range w node) ds) seen ≡ raft.with_site seen node (after ds (raft.site seen node))
    run_heads [] h k = run_from [] tt k
    run_heads (Acts action ∷ ds) h k = run_from (Acts action ∷ ds) h k
    run_heads (Starts t ∷ ds) h k = run_from (Starts t ∷ ds) h k
    run_heads (Gets from number m again ∷ ds) h k =
        ap (λ z. raft.run g (map (as_event range w node) ds) (option_map_or (raft.comes g seen from again) z seen)) h.0
        ∙ run_plain ds h.1 k (raft.after_turn (raft.site seen node) (raft.gets g node from m again (raft.site seen node).status))

  -- what an event brings was sent
  abbrev Brings : Event AppliedState → Type 0
  Brings (events.Deliver from at number m) = at ≡ range → IsSent from number m
  Brings _ = Unit {0}

  message_heads : (n : Node) (at from number : ℕ) (m : Message AppliedState) → (at ≡ range → IsSent from number m) → (status : Status)
      → Heads (message_doings range n at from number m status)
  message_heads n at from number m sent Absent =
      cond_both (eqb at range) (Gets from number m [] ∷ []) [] Heads (λ e. (sent (eqb-true at range e), tt)) (λ _. tt)
  message_heads n at from number m sent (Live r) =
      let d : Done = event r (Deliver from m) n.ticks n.rounds [] in
      cond_both (eqb at range) (Gets from number m d.proposed ∷ []) [] (λ ds. Heads (ds ++ starting range d.right))
      (λ e. (sent (eqb-true at range e), plain_starting range d.right))
      (λ _. plain_heads (starting range d.right) (plain_starting range d.right))
  message_heads n at from number m sent (Removed applied) = tt

  event_heads : (n : Node) (e : Event AppliedState) (taken : List Item) → Brings e → Heads (node_doings range n e taken)
  event_heads n (events.Admit at id request) taken b = plain_heads (seat_doings range n at 0 (Admit id request) [] (seat n at)) (plain_seat range n at 0 (Admit id request) [] tt (seat n at))
  event_heads n (events.Ask at) taken b = plain_heads (seat_doings range n at 0 Ask [] (seat n at)) (plain_seat range n at 0 Ask [] tt (seat n at))
  event_heads n (events.Transfer at to) taken b = plain_heads (seat_doings range n at 0 (Transfer to) [] (seat n at)) (plain_seat range n at 0 (Transfer to) [] tt (seat n at))
  event_heads n (events.Collect at) taken b = plain_heads (seat_doings range n at 0 Collect taken (seat n at)) (plain_seat range n at 0 Collect taken tt (seat n at))
  event_heads n (events.Flush at) taken b = plain_heads (seat_doings range n at 0 Flush [] (seat n at)) (plain_seat range n at 0 Flush [] tt (seat n at))
  event_heads n events.Tick taken b = plain_heads (all_doings range Tick (record n { ticks = n.ticks + 1 }) range_numbers) (plain_all range Tick tt (record n { ticks = n.ticks + 1 }) range_numbers)
  event_heads n (events.Deliver from at number m) taken b = message_heads n at from number m b (seat n at)
  event_heads n (events.Apply at) taken b = plain_heads (seat_doings range n at 0 Apply [] (seat n at)) (plain_seat range n at 0 Apply [] tt (seat n at))
  event_heads n (events.Cut at) taken b = plain_heads (seat_doings range n at 0 Cut [] (seat n at)) (plain_seat range n at 0 Cut [] tt (seat n at))
  event_heads n (events.Remove at) taken b = plain_heads (seat_doings range n at 0 Remove [] (seat n at)) (plain_seat range n at 0 Remove [] tt (seat n at))
  event_heads n (events.Peek at key) taken b = plain_heads (seat_doings range n at 0 (Peek key) [] (seat n at)) (plain_seat range n at 0 (Peek key) [] tt (seat n at))
  event_heads n events.Restart taken b = plain_heads (all_doings range Restart n range_numbers) (plain_all range Restart tt n range_numbers)
  event_heads n events.Round taken b = tt

  some_event : (e f : Event AppliedState) → ◌≡◌ {A = Option (Event AppliedState)} (Some e) (Some f) → e ≡ f
  some_event e f is = cc

  -- a message that is for the node
  parcel_brings : (from number : ℕ) (o : Option (Parcel AppliedState)) → parcel_of (sent_by w from) number ≡ o → (e : Event AppliedState)
      → option_map (delivery from number) o ≡ Some e → IsTrue (option_map_or (λ (p : Parcel AppliedState). p.to == node) o false) → Brings e
  parcel_brings from number None at e is sent = absurd cc
  parcel_brings from number (Some p) at e is sent = subst Brings (some_event _ e is)
      (λ own. message_seen range w from number p at own ∙ ap (λ z. Some (z, p.message)) (eqb-true p.to node sent))

  brings : (what : Happening) (e : Event AppliedState) → event_of w what ≡ Some e → IsTrue (is_allowed w node what) → Brings e
  brings (worlds.Admit at id request) e is k = subst Brings (some_event _ e is) tt
  brings (worlds.Ask at) e is k = subst Brings (some_event _ e is) tt
  brings (worlds.Transfer at to) e is k = subst Brings (some_event _ e is) tt
  brings (worlds.Collect at taken) e is k = subst Brings (some_event _ e is) tt
  brings (worlds.Flush at) e is k = subst Brings (some_event _ e is) tt
  brings worlds.Tick e is k = subst Brings (some_event _ e is) tt
  brings (worlds.Deliver from number) e is k = parcel_brings from number (parcel_of (sent_by w from) number) refl e is k
  brings (worlds.Apply at) e is k = subst Brings (some_event _ e is) tt
  brings (worlds.Cut at) e is k = subst Brings (some_event _ e is) tt
  brings (worlds.Remove at) e is k = subst Brings (some_event _ e is) tt
  brings (worlds.Peek at key) e is k = subst Brings (some_event _ e is) tt
  brings worlds.Restart e is k = subst Brings (some_event _ e is) tt
  brings worlds.Round e is k = subst Brings (some_event _ e is) tt

  pub placed : (n : Node) → node_of w node ≡ Some n → (place : ℕ) × (node ≡ suc place) × (place < length seen)
  placed n has = at node refl has where
    at : (k : ℕ) → node ≡ k → node_of w k ≡ Some n → (place : ℕ) × (node ≡ suc place) × (place < length seen)
    at zero is has' = absurd cc
    at (suc place) is has' = (place, is, omega (arith, slice_get_within w place n has', length-map w (site_of range)))

pub and_right : (b c : Bool) → IsTrue (b && c) → IsTrue c
and_right true c h = h
and_right false c h = absurd cc

-- a scene, as the range sees it
pub scene_seen : (range : ℕ) (start : AppliedState) → range < 8 → (w : World) → AreShaped w → (x : Scene) → IsTrue (is_lawful w x) → StartsIn start (doings_in range w x)
    → view range (happens w x) ≡ raft.run (range_at (length w) range start) (raft_events range w x) (view range w)
scene_seen range start below w shaped x lawful starts = by_node (node_of w x.node) refl lawful starts where
  by_event : (n : Node) → node_of w x.node ≡ Some n → IsTrue (is_allowed w x.node x.what) → (o : Option (Event AppliedState)) → event_of w x.what ≡ o
      → StartsIn start (option_map_or (λ e. node_doings range n e (taken_in x.what)) o [])
      → view range (option_map_or (after_step w x.node n (taken_in x.what)) o w)
      ≡ raft.run (range_at (length w) range start) (map (as_event range w x.node) (option_map_or (λ e. node_doings range n e (taken_in x.what)) o [])) (view range w)
  by_event n has allowed None is starts' = refl
  by_event n has allowed (Some e) is starts' =
      let p = placed range start w x.node n has in
      let ds : List Doing = node_doings range n e (taken_in x.what) in
      view_with range w x.node (step n e (taken_in x.what)).node
      ∙ ap (raft.with_site (view range w) x.node) (node_site (length w) range start x.node below n e (taken_in x.what) (shaped.each x.node n has)
      ∙ ap (site_after (length w) range start x.node ds) (sym (site_seen range w x.node n has)))
      ∙ sym (run_heads range start w x.node p.0 p.1 p.2 ds (event_heads range start w x.node n e (taken_in x.what) (brings range start w x.node x.what e is allowed)) starts')

  by_node : (o : Option Node) → node_of w x.node ≡ o → IsTrue (option_map_or (λ n. not (is_full n) && is_allowed w x.node x.what) o false) → StartsIn start (option_map_or (scene_doings range w x) o [])
      → view range (option_map_or (happens_at w x) o w)
      ≡ raft.run (range_at (length w) range start) (map (as_event range w x.node) (option_map_or (scene_doings range w x) o [])) (view range w)
  by_node None has lawful' starts' = refl
  by_node (Some n) has lawful' starts' = by_event n has (and_right (not (is_full n)) (is_allowed w x.node x.what) lawful') (event_of w x.what) refl starts'

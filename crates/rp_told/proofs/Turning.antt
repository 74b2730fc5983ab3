-- A lawful scene is an event of its node, whose lists grow; nothing else changes.
use Rattle.std.proofs.Common.{◌≡◌, ⊎_elim, ℕ, true, false, Option, None, Some, List, [], ◌∷◌, ◌++◌, length, drop, refl, sym, ap, subst, ◌∙◌}
use Rattle.std.specs.Prelude.{IsTrue, ◌==◌, ◌&&◌, not}
use Rattle.std.specs.Option.{option_map, option_map_or}
use Rattle.rp_request.specs.Applied.{AppliedState}
use Rattle.rp_events.specs.declared.node_events.Event.{Event}
use Rattle.rp_events.specs.declared.node_events.Event.TheVariants as events
use Rattle.rp_events.specs.declared.parcels.Parcel.{Parcel}
use Rattle.rp_events.specs.Nodes.{Node, is_full, parcel_of}
use Rattle.rp_events.specs.NodeEvents.{step}
use Rattle.rp_events.specs.Worlds as worlds
use Rattle.rp_events.specs.Worlds.{World, Scene, Happening, node_of, with_node, sent_by, delivery, event_of, taken_in, after_step, happens_at, happens}
use Rattle.rp_events.specs.Lawful.{is_sent_to, is_allowed, is_lawful, Lawful, IsReached, IsLater}
use Rattle.rp_journals.specs.Growth.{Begins, Grows}
use Rattle.rp_journals.proofs.Growing.{Happened, happened, with_same, with_other, length_with, some_node, step_grows, reached_later}
use Rattle.rp_journals.proofs.Asking.{allowed}
use Rattle.rp_told.specs.Turns.{Turns, behind}

-- a lawful scene has its node
pub has_node : (w : World) (x : Scene) → IsTrue (is_lawful w x) → (n : Node) × (node_of w x.node ≡ Some n)
has_node w x l = go (node_of w x.node) refl l where
  go : (o : Option Node) → node_of w x.node ≡ o → option_map_or (λ (n : Node). not (is_full n) && is_allowed w x.node x.what) o false ≡ true → (n : Node) × (node_of w x.node ≡ Some n)
  go None has l' = absurd cc
  go (Some n) has l' = (n, has)

-- what was sent is there
sent_there : (w : World) (node from number : ℕ) → is_sent_to w node from number ≡ true → (p : Parcel AppliedState) × (parcel_of (sent_by w from) number ≡ Some p)
sent_there w node from number a = go (parcel_of (sent_by w from) number) refl a where
  go : (o : Option (Parcel AppliedState)) → parcel_of (sent_by w from) number ≡ o → option_map_or (λ (p : Parcel AppliedState). p.to == node) o false ≡ true
      → (p : Parcel AppliedState) × (parcel_of (sent_by w from) number ≡ Some p)
  go None is a' = absurd cc
  go (Some p) is a' = (p, is)

-- what is allowed comes as an event
comes_as : (w : World) (node : ℕ) (what : Happening) → is_allowed w node what ≡ true → (e : Event AppliedState) × (event_of w what ≡ Some e)
comes_as w node (worlds.Admit range id request) a = (events.Admit range id request, refl)
comes_as w node (worlds.Ask range) a = (events.Ask range, refl)
comes_as w node (worlds.Transfer range to) a = (events.Transfer range to, refl)
comes_as w node (worlds.Collect range taken) a = (events.Collect range, refl)
comes_as w node (worlds.Flush range) a = (events.Flush range, refl)
comes_as w node worlds.Tick a = (events.Tick, refl)
comes_as w node (worlds.Deliver from number) a =
    let p = sent_there w node from number a in (delivery from number p.0, ap (option_map (delivery from number)) p.1)
comes_as w node (worlds.Apply range) a = (events.Apply range, refl)
comes_as w node (worlds.Cut range) a = (events.Cut range, refl)
comes_as w node (worlds.Remove range) a = (events.Remove range, refl)
comes_as w node (worlds.Peek range key) a = (events.Peek range key, refl)
comes_as w node worlds.Restart a = (events.Restart, refl)
comes_as w node worlds.Round a = (events.Round, refl)

-- a lawful scene is this event
pub record Turned (w : World) (x : Scene) (n now : Node) : Type 0 where
  pub event : Event AppliedState
  pub came : event_of w x.what ≡ Some event
  pub is : now ≡ (step n event (taken_in x.what)).node
  pub left : happens w x ≡ with_node w x.node now

happens_is : (w : World) (x : Scene) (n : Node) (e : Event AppliedState) → node_of w x.node ≡ Some n → event_of w x.what ≡ Some e → happens w x ≡ with_node w x.node (step n e (taken_in x.what)).node
happens_is w x n e has came = ap (λ o. option_map_or (happens_at w x) o w) has ∙ ap (λ o. option_map_or (after_step w x.node n (taken_in x.what)) o w) came

stepped : (w : World) (x : Scene) (n : Node) (e : Event AppliedState) → node_of w x.node ≡ Some n → event_of w x.what ≡ Some e → node_of (happens w x) x.node ≡ Some (step n e (taken_in x.what)).node
stepped w x n e has came =
    ap (λ z. node_of z x.node) (happens_is w x n e has came) ∙ with_same w x.node n (step n e (taken_in x.what)).node has

pub turned : (w : World) (x : Scene) (n now : Node) → Turns w x n now → Turned w x n now
turned w x n now t =
    let e = comes_as w x.node x.what (allowed w x n t.has t.lawful.lawful).1 in
    let is : now ≡ (step n e.0 (taken_in x.what)).node = some_node now _ (sym t.left ∙ stepped w x n e.0 t.has e.1) in
    record {
      event = e.0;
      came = e.1;
      is = is;
      left = happens_is w x n e.0 t.has e.1 ∙ ap (with_node w x.node) (sym is);
    }

pub as_happened : (w : World) (x : Scene) (n now : Node) → Turns w x n now → (k : Happened w x) × (k.n ≡ n) × (now ≡ (step k.n k.event (taken_in x.what)).node)
as_happened w x n now t =
    let k = turned w x n now t in
    (record { n = n; has = t.has; event = k.event; came = k.came; is = happens_is w x n k.event t.has k.came }, refl, k.is)

pub turns : (w : World) (x : Scene) → Lawful w x → (n : Node) × (now : Node) × Turns w x n now
turns w x l =
    let h = has_node w x l.lawful in
    let e = comes_as w x.node x.what (allowed w x h.0 h.1 l.lawful).1 in
    (h.0, (step h.0 e.0 (taken_in x.what)).node, record { lawful = l; has = h.1; left = stepped w x h.0 e.0 h.1 e.1 })

pub turn_grows : (w : World) (x : Scene) (n now : Node) → Turns w x n now → Grows n now
turn_grows w x n now t =
    let k = turned w x n now t in subst (Grows n) (sym k.is) (step_grows n k.event (taken_in x.what))

-- every other node stays
pub others_stay : (w : World) (x : Scene) (k : ℕ) → (k ≡ x.node → ⊥) → node_of (happens w x) k ≡ node_of w k
others_stay w x k ne = ⊎_elim
    (λ (same : happens w x ≡ w). ap (λ z. node_of z k) same)
    (λ (h : Happened w x). ap (λ z. node_of z k) h.is ∙ with_other w x.node (step h.n h.event (taken_in x.what)).node k ne)
    (happened w x)

pub as_many : (w : World) (x : Scene) → length (happens w x) ≡ length w
as_many w x = ⊎_elim
    (λ (same : happens w x ≡ w). ap length same)
    (λ (h : Happened w x). ap length h.is ∙ length_with w x.node (step h.n h.event (taken_in x.what)).node)
    (happened w x)

-- a list that has grown is its front and what stands behind it
pub drop_front : {X : Type 0} (xs ys : List X) → drop (length xs) (xs ++ ys) ≡ ys
drop_front [] ys = refl
drop_front (x ∷ xs) ys = drop_front xs ys

pub front_and_behind : {X : Type 0} (front list : List X) → Begins front list → list ≡ front ++ behind front list
front_and_behind front list b = b.is ∙ ap (λ l. front ++ l) (sym (ap (drop (length front)) b.is ∙ drop_front front b.more))

-- a world that is reached is so after a lawful scene
pub later_by : (w : World) (x : Scene) → Lawful w x → IsLater w (happens w x)
later_by w x l = record { schedule = x ∷ []; lawful = (l, tt); reached = refl }

pub reached_by : (nodes : ℕ) (w : World) → IsReached nodes w → (x : Scene) → Lawful w x → IsReached nodes (happens w x)
reached_by nodes w r x l = reached_later nodes w (happens w x) r (later_by w x l)

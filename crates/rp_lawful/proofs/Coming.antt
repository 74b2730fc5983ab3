-- Which events come at the nodes of a sound player, and what they leave.
use Rattle.std.proofs.Common.{◌≡◌, ℕ, zero, suc, ◌<◌, ◌≤◌, Bool, true, false, cond, Option, None, Some, List, [], ◌∷◌, length, refl, sym, ap, subst, ◌∙◌, arith}
use Rattle.std.specs.Prelude.{slice_get, not, nat_le, nat_lt, ◌&&◌, ◌==◌}
use Rattle.std.specs.Option.{option_map_or}
use Rattle.std.proofs.lemmas.Option.{slice_get_within}
use Rattle.rp_base.specs.declared.items.Item.{Item}
use Rattle.rp_bufcore.specs.Buffers.{buffer_of, given, after_collect}
use Rattle.rp_request.specs.Applied.{AppliedState}
use Rattle.rp_raftsafe.proofs.Known.{one_list_holds}
use Rattle.rp_script.specs.Bounds.{IsNode}
use Rattle.rp_events.specs.declared.parcels.Parcel.{Parcel}
use Rattle.rp_events.specs.declared.world_events.WorldEvent.{WorldEvent}
use Rattle.rp_events.specs.declared.world_events.WorldEvent.TheVariants as events
use Rattle.rp_events.specs.Nodes.{Node, is_full, parcel_of}
use Rattle.rp_events.specs.Worlds as worlds
use Rattle.rp_events.specs.Worlds.{World, Happening, Scene, node_of, sent_by, happens}
use Rattle.rp_events.specs.Lawful.{Lawful, HasWidths, IsReached, is_lawful, is_allowed, happens_if}
use Rattle.rp_events.specs.Buffered.{Buffered, buffers_at, has_live, at_node, changed, collects, collected, buffered_step}
use Rattle.rp_allowed.proofs.Firm.{reached_firm}
use Rattle.rp_allowed.proofs.Stepping.{may_step}
use Rattle.rp_journals.proofs.Elsewhere.{event_some, lawful_node}
use Rattle.rp_journals.proofs.Itself.{equal_itself}
use Rattle.rp_lawful.specs.Sound.{AreSoundBuffers}
use Rattle.rp_lawful.specs.Comings.{ComesAs, ComesBy, Comes, IsPlain, scene_at, node_in, happening_of, taken_at}
use Rattle.rp_lawful.proofs.Buffers.{given_few, changed_sound, collected_run, beside_sound}
use Rattle.rp_lawful.proofs.Worlds.{all_events, not_full}

-- a place of a list
pub get_there : {X : Type 0} (xs : List X) (i : ℕ) → i < length xs → (x : X) × (slice_get xs i ≡ Some x)
get_there [] i h = absurd (omega (arith, h))
get_there (x ∷ xs) zero h = (x, refl)
get_there (x ∷ xs) (suc i) h = get_there xs i (omega (arith, h))

-- a node of the world
pub node_there : (w : World) (node : ℕ) → IsNode (length w) node → (n : Node) × (node_of w node ≡ Some n)
node_there w zero h = absurd (let k = h.0 in omega (arith, k))
node_there w (suc place) h = get_there w place (let k = h.1 in omega (arith, k))

pub is_node : (w : World) (node : ℕ) (n : Node) → node_of w node ≡ Some n → IsNode (length w) node
is_node w zero n has = absurd (none_some has) where
  none_some : ◌≡◌ {A = Option Node} None (Some n) → ⊥
  none_some e = cc
is_node w (suc place) n has = let k = slice_get_within w place n has in (omega arith, omega (arith, k))

-- what is allowed at a node is lawful there, while the journals have room
pub lawful_at : (w : World) (node : ℕ) (what : Happening) → IsNode (length w) node → all_events w ≤ 4194304 → is_allowed w node what ≡ true → HasWidths what → Lawful w (scene_at node what)
lawful_at w node what is few allows widths =
    let k = node_there w node is in
    record {
      lawful =
          ap (λ o. option_map_or (λ (n : Node). not (is_full n) && is_allowed w node what) o false) k.1
          ∙ ap (λ b. not b && is_allowed w node what) (not_full w node k.0 k.1 few) ∙ allows;
      widths = widths;
    }

-- what is lawful in a reached world comes
pub comes_as : (nodes : ℕ) (b : Buffered) → IsReached nodes b.nodes → (node : ℕ) (what : Happening) → Lawful b.nodes (scene_at node what) → ComesAs b node what
comes_as nodes b reached node what l =
    let n = lawful_node b.nodes (scene_at node what) l.lawful in
    let e = event_some b.nodes node what n.2 in
    record {
      lawful = l;
      at = n.0;
      has = n.1;
      event = e.0;
      is = e.1;
      may = may_step (one_list_holds AppliedState) nodes b.nodes reached (reached_firm (one_list_holds AppliedState) nodes b.nodes reached) (scene_at node what) l n.0 n.1 e.0 e.1;
    }

few_true : (n bound : ℕ) → n ≤ bound → nat_le n bound ≡ true
few_true n bound h = grind arith

some_true : (n : ℕ) → 1 ≤ n → nat_lt 0 n ≡ true
some_true n h = grind arith

both_true : (a b : Bool) → a ≡ true → b ≡ true → (a && b) ≡ true
both_true true b e f = f
both_true false b e f = absurd cc

-- a collect takes no more than a buffer holds
taken_few : (b : Buffered) → AreSoundBuffers b → (node range : ℕ) → length (taken_at b node range) ≤ 16
taken_few b s node range = go (has_live b.nodes node range) where
  go : (v : Bool) → length (cond v (given (buffer_of (buffers_at b node) range)) []) ≤ 16
  go true = given_few (buffer_of (buffers_at b node) range) (s.runs node range)
  go false = omega arith

module _ (nodes : ℕ) (b : Buffered) (reached : IsReached nodes b.nodes) (few : all_events b.nodes ≤ 4194304) (buffers : AreSoundBuffers b) where
  comes_at : (node : ℕ) (what : Happening) → IsNode (length b.nodes) node → is_allowed b.nodes node what ≡ true → HasWidths what → ComesAs b node what
  comes_at node what is allows widths = comes_as nodes b reached node what (lawful_at b.nodes node what is few allows widths)

  -- each plain event comes
  pub plain_comes : (e : WorldEvent) → IsPlain (length b.nodes) e → Comes b e
  plain_comes (events.Admit node range id request) is = absurd is
  plain_comes (events.Ask node range) is = record { comes = comes_at node (worlds.Ask range) is refl tt }
  plain_comes (events.Transfer node range to) is = record {
    comes = comes_at node (worlds.Transfer range to) is.0 (both_true _ _ (some_true to is.1.0) (few_true to (length b.nodes) is.1.1)) tt;
  }
  plain_comes (events.Collect node range) is = record {
    comes = comes_at node (worlds.Collect range (taken_at b node range)) is (few_true _ _ (taken_few b buffers node range)) tt;
  }
  plain_comes (events.Flush node range) is = record { comes = comes_at node (worlds.Flush range) is refl tt }
  plain_comes (events.Tick node) is = record { comes = comes_at node worlds.Tick is refl tt }
  plain_comes (events.Deliver node from number) is = absurd is
  plain_comes (events.Apply node range) is = record { comes = comes_at node (worlds.Apply range) is refl tt }
  plain_comes (events.Cut node range) is = record { comes = comes_at node (worlds.Cut range) is refl tt }
  plain_comes (events.Remove node range) is = record { comes = comes_at node (worlds.Remove range) is refl tt }
  plain_comes (events.Peek node range key) is = record { comes = comes_at node (worlds.Peek range key) is refl tt }
  plain_comes (events.Restart node) is = record { comes = comes_at node worlds.Restart is refl tt }
  plain_comes (events.Round node) is = record { comes = comes_at node worlds.Round is refl tt }
  plain_comes (events.Draw node range) is = absurd is
  plain_comes (events.Publish node range place item) is = absurd is

  -- a message that was sent comes at its receiver
  pub message_comes : (sender number : ℕ) (p : Parcel AppliedState) → parcel_of (sent_by b.nodes sender) number ≡ Some p → IsNode (length b.nodes) p.to → Comes b (events.Deliver p.to sender number)
  message_comes sender number p is to = record {
    comes = comes_at p.to (worlds.Deliver sender number) to (ap (λ o. option_map_or (λ (z : Parcel AppliedState). z.to == p.to) o false) is ∙ equal_itself p.to) tt;
  }

-- an event leaves these nodes and buffers: the nodes as something that happens at its node makes them,
-- and the buffers sound
pub record Leaves (b : Buffered) (x : Scene) (after : Buffered) : Type 0 where
  pub nodes_are : after.nodes ≡ happens b.nodes x
  pub buffers_are : AreSoundBuffers b → length (happens b.nodes x) ≡ length b.nodes → AreSoundBuffers after

at_leaves : (b : Buffered) (node : ℕ) (what : Happening) → is_lawful b.nodes (scene_at node what) ≡ true → Leaves b (scene_at node what) (at_node b node what)
at_leaves b node what l =
    let is : happens_if (is_lawful b.nodes (scene_at node what)) b.nodes (scene_at node what) ≡ happens b.nodes (scene_at node what) = ap (λ v. happens_if v b.nodes (scene_at node what)) l in
    record { nodes_are = is; buffers_are = λ s size. beside_sound b _ (ap length is ∙ size) s }

collect_leaves : (b : Buffered) (node range : ℕ) → is_lawful b.nodes (scene_at node (worlds.Collect range (taken_at b node range))) ≡ true
    → Leaves b (scene_at node (worlds.Collect range (taken_at b node range))) (collected b node range)
collect_leaves b node range l = go (has_live b.nodes node range) l where
  items : List Item
  items = given (buffer_of (buffers_at b node) range)

  inner : (v : Bool) → is_lawful b.nodes (scene_at node (worlds.Collect range items)) ≡ true → v ≡ true
      → Leaves b (scene_at node (worlds.Collect range items)) (cond v (changed (at_node b node (worlds.Collect range items)) node range after_collect) b)
  inner true l' e =
      let k = at_leaves b node (worlds.Collect range items) l' in
      record {
        nodes_are = k.nodes_are;
        buffers_are = λ s size. changed_sound (at_node b node (worlds.Collect range items)) node range after_collect collected_run (k.buffers_are s size);
      }
  inner false l' e = absurd cc

  go : (v : Bool) → is_lawful b.nodes (scene_at node (worlds.Collect range (cond v items []))) ≡ true
      → Leaves b (scene_at node (worlds.Collect range (cond v items []))) (cond v (collects b node range items) (at_node b node (worlds.Collect range [])))
  go true l' = inner (is_lawful b.nodes (scene_at node (worlds.Collect range items))) l' l'
  go false l' = at_leaves b node (worlds.Collect range []) l'

-- so does each event that comes
pub event_leaves : (b : Buffered) (e : WorldEvent) → (what : Happening) → happening_of b e ≡ Some what → is_lawful b.nodes (scene_at (node_in e) what) ≡ true
    → Leaves b (scene_at (node_in e) what) (buffered_step b e)
event_leaves b e what is l = go e what is l where
  some_is : (x y : Happening) → ◌≡◌ {A = Option Happening} (Some x) (Some y) → x ≡ y
  some_is x y f = cc

  at : (node : ℕ) (mine what : Happening) → ◌≡◌ {A = Option Happening} (Some mine) (Some what) → is_lawful b.nodes (scene_at node what) ≡ true → Leaves b (scene_at node what) (at_node b node mine)
  at node mine what f l' = subst (λ m. Leaves b (scene_at node what) (at_node b node m)) (sym (some_is mine what f)) (at_leaves b node what l')

  collect_at : (node range : ℕ) (what : Happening) → ◌≡◌ {A = Option Happening} (Some (worlds.Collect range (taken_at b node range))) (Some what) → is_lawful b.nodes (scene_at node what) ≡ true
      → Leaves b (scene_at node what) (collected b node range)
  collect_at node range what f l' =
      let same : worlds.Collect range (taken_at b node range) ≡ what = some_is _ what f in
      subst (λ m. Leaves b (scene_at node m) (collected b node range)) same (collect_leaves b node range (subst (λ m. is_lawful b.nodes (scene_at node m) ≡ true) (sym same) l'))

  go : (e : WorldEvent) (what : Happening) → happening_of b e ≡ Some what → is_lawful b.nodes (scene_at (node_in e) what) ≡ true → Leaves b (scene_at (node_in e) what) (buffered_step b e)
  go (events.Admit node range id request) what f l' = at node _ what f l'
  go (events.Ask node range) what f l' = at node _ what f l'
  go (events.Transfer node range to) what f l' = at node _ what f l'
  go (events.Collect node range) what f l' = collect_at node range what f l'
  go (events.Flush node range) what f l' = at node _ what f l'
  go (events.Tick node) what f l' = at node _ what f l'
  go (events.Deliver node from number) what f l' = at node _ what f l'
  go (events.Apply node range) what f l' = at node _ what f l'
  go (events.Cut node range) what f l' = at node _ what f l'
  go (events.Remove node range) what f l' = at node _ what f l'
  go (events.Peek node range key) what f l' = at node _ what f l'
  go (events.Restart node) what f l' = at node _ what f l'
  go (events.Round node) what f l' = at node _ what f l'
  go (events.Draw node range) what f l' = absurd cc
  go (events.Publish node range place item) what f l' = absurd cc

-- what comes happens
pub comes_nodes : (b : Buffered) (e : WorldEvent) → Comes b e → (what : Happening) → happening_of b e ≡ Some what → (buffered_step b e).nodes ≡ happens b.nodes (scene_at (node_in e) what)
comes_nodes b e c what is = (event_leaves b e what is (lawful_of (happening_of b e) is c.comes)).nodes_are where
  some_is : (x y : Happening) → ◌≡◌ {A = Option Happening} (Some x) (Some y) → x ≡ y
  some_is x y f = cc

  lawful_of : (o : Option Happening) → o ≡ Some what → ComesBy b (node_in e) o → is_lawful b.nodes (scene_at (node_in e) what) ≡ true
  lawful_of None f h = absurd h
  lawful_of (Some mine) f h = subst (λ m. is_lawful b.nodes (scene_at (node_in e) m) ≡ true) (some_is mine what f) h.lawful.lawful

-- and a collect that a live replica takes collects its buffer
pub comes_buffers : (b : Buffered) (e : WorldEvent) → Comes b e → (node range : ℕ) → e ≡ events.Collect node range → has_live b.nodes node range ≡ true → (buffered_step b e).buffers ≡ (changed b node range after_collect).buffers
comes_buffers b e c node range same live = subst (λ (f : WorldEvent). (buffered_step b f).buffers ≡ (changed b node range after_collect).buffers) (sym same) (go (subst (Comes b) same c)) where
  go : Comes b (events.Collect node range) → (collected b node range).buffers ≡ (changed b node range after_collect).buffers
  go d = collected_is where
    items : List Item
    items = given (buffer_of (buffers_at b node) range)

    taken : taken_at b node range ≡ items
    taken = ap (λ v. cond v items []) live

    lawful : is_lawful b.nodes (scene_at node (worlds.Collect range items)) ≡ true
    lawful = subst (λ l. is_lawful b.nodes (scene_at node (worlds.Collect range l)) ≡ true) taken d.comes.lawful.lawful

    collected_is : (collected b node range).buffers ≡ (changed b node range after_collect).buffers
    collected_is =
        ap (λ v. (cond v (collects b node range items) (at_node b node (worlds.Collect range []))).buffers) live
        ∙ ap (λ v. (cond v (changed (at_node b node (worlds.Collect range items)) node range after_collect) b).buffers) lawful

-- what is for nobody is skipped
pub nobody_skipped : (b : Buffered) (node sender number : ℕ) → node_of b.nodes node ≡ None → buffered_step b (events.Deliver node sender number) ≡ b
nobody_skipped b node sender number none =
    let out : is_lawful b.nodes (scene_at node (worlds.Deliver sender number)) ≡ false = ap (λ o. option_map_or (λ (n : Node). not (is_full n) && is_allowed b.nodes node (worlds.Deliver sender number)) o false) none in
    ap (λ (v : Bool). record b { nodes = happens_if v b.nodes (scene_at node (worlds.Deliver sender number)) }) out

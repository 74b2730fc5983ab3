-- Each scene leaves the nodes as they are numbered, how many there are, and how many seats they have.
use Rattle.std.proofs.Common.{◌≡◌, ℕ, zero, suc, ◌+◌, ◌⊎◌, inl, inr, ⊎_elim, Option, None, Some, List, [], ◌∷◌, length, set, refl, sym, ap, subst, ◌∙◌}
use Rattle.std.specs.Prelude.{slice_get}
use Rattle.std.specs.Option.{option_map_or}
use Rattle.std.proofs.lemmas.List.{length-set}
use Rattle.rp_base.specs.declared.items.Item.{Item}
use Rattle.rp_raftstep.specs.declared.messages.Message.{Message}
use Rattle.rp_request.specs.Applied.{AppliedState}
use Rattle.rp_events.specs.declared.node_events.Event.{Event}
use Rattle.rp_events.specs.declared.node_events.Event.TheVariants as events
use Rattle.rp_events.specs.declared.replica_events.ReplicaEvent.{ReplicaEvent}
use Rattle.rp_events.specs.declared.replica_events.ReplicaEvent.TheVariants.{Admit, Ask, Transfer, Collect, Flush, Tick, Deliver, Apply, Cut, Remove, Peek, Restart}
use Rattle.rp_events.specs.ReplicaEvents.{event}
use Rattle.rp_events.specs.Nodes.{Node, Status, Absent, Live, Removed, seat, range_numbers}
use Rattle.rp_events.specs.NodeEvents.{by_status, live_turn, all_turns, delivered, acted, step, with_request, seat_by_message}
use Rattle.rp_events.specs.Worlds.{World, Scene, node_of, with_node, event_of, taken_in, after_step, happens_at, happens}
use Rattle.rp_seats.specs.Standing.{IsShaped, AreShaped}
use Rattle.rp_seats.proofs.Nodes.{shaped_replica}

module _ (nodes node : ℕ) where
  shaped_status : (n : Node) (at : ℕ) (e : ReplicaEvent AppliedState) (taken : List Item) → IsShaped nodes node n → (status : Status) → IsShaped nodes node (by_status n at e taken status).node
  shaped_status n at e taken s Absent = s
  shaped_status n at e taken s (Live r) = shaped_replica nodes node n at e (event r e n.ticks n.rounds taken) s
  shaped_status n at e taken s (Removed applied) = s

  pub shaped_live : (n : Node) (at : ℕ) (e : ReplicaEvent AppliedState) → IsShaped nodes node n → (status : Status) → IsShaped nodes node (live_turn e n at status)
  shaped_live n at e s Absent = s
  shaped_live n at e s (Live r) = shaped_replica nodes node n at e (event r e n.ticks n.rounds []) s
  shaped_live n at e s (Removed applied) = s

  shaped_all : (e : ReplicaEvent AppliedState) (ranges : List ℕ) (n : Node) → IsShaped nodes node n → IsShaped nodes node (all_turns e n ranges)
  shaped_all e [] n s = s
  shaped_all e (at ∷ more) n s = shaped_all e more (live_turn e n at (seat n at)) (shaped_live n at e s (seat n at))

  shaped_message : (n : Node) (from at : ℕ) (m : Message AppliedState) → IsShaped nodes node n → (status : Status) → IsShaped nodes node (delivered n from at m status)
  shaped_message n from at m s Absent = record { number = s.number; of = s.of; eight = length-set n.seats at (seat_by_message n from m) ∙ s.eight }
  shaped_message n from at m s (Live r) = shaped_replica nodes node n at (Deliver from m) (event r (Deliver from m) n.ticks n.rounds []) s
  shaped_message n from at m s (Removed applied) = s

  shaped_acted : (n : Node) (e : Event AppliedState) (taken : List Item) → IsShaped nodes node n → IsShaped nodes node (acted n e taken).node
  shaped_acted n (events.Admit at id request) taken s =
      shaped_status (with_request n request) at (Admit id request) [] (record { number = s.number; of = s.of; eight = s.eight }) (seat n at)
  shaped_acted n (events.Ask at) taken s = shaped_status n at Ask [] s (seat n at)
  shaped_acted n (events.Transfer at to) taken s = shaped_status n at (Transfer to) [] s (seat n at)
  shaped_acted n (events.Collect at) taken s = shaped_status n at Collect taken s (seat n at)
  shaped_acted n (events.Flush at) taken s = shaped_status n at Flush [] s (seat n at)
  shaped_acted n events.Tick taken s = shaped_all Tick range_numbers (record n { ticks = n.ticks + 1 }) (record { number = s.number; of = s.of; eight = s.eight })
  shaped_acted n (events.Deliver from at number m) taken s = shaped_message n from at m s (seat n at)
  shaped_acted n (events.Apply at) taken s = shaped_status n at Apply [] s (seat n at)
  shaped_acted n (events.Cut at) taken s = shaped_status n at Cut [] s (seat n at)
  shaped_acted n (events.Remove at) taken s = shaped_status n at Remove [] s (seat n at)
  shaped_acted n (events.Peek at key) taken s = shaped_status n at (Peek key) [] s (seat n at)
  shaped_acted n events.Restart taken s = shaped_all Restart range_numbers n s
  shaped_acted n events.Round taken s = record { number = s.number; of = s.of; eight = s.eight }

  pub shaped_step : (n : Node) (e : Event AppliedState) (taken : List Item) → IsShaped nodes node n → IsShaped nodes node (step n e taken).node
  shaped_step n e taken s = let a = shaped_acted n e taken s in record { number = a.number; of = a.of; eight = a.eight }

-- a node of a world in which one changed is that one, or was there before
pub record Changed (place j : ℕ) (new m : Node) : Type 0 where
  pub here : j ≡ place
  pub is : m ≡ new

pub set_get : (w : World) (place : ℕ) (new : Node) (j : ℕ) (m : Node) → slice_get (set w place new) j ≡ Some m → Changed place j new m ⊎ (slice_get w j ≡ Some m)
set_get [] place new j m e = inr e
set_get (x ∷ w) zero new zero m e = inl (record { here = refl; is = sym (some_is new m e) }) where
  some_is : (a b : Node) → ◌≡◌ {A = Option Node} (Some a) (Some b) → a ≡ b
  some_is a b e = cc
set_get (x ∷ w) zero new (suc j) m e = inr e
set_get (x ∷ w) (suc place) new zero m e = inr e
set_get (x ∷ w) (suc place) new (suc j) m e = ⊎_elim
    (λ (c : Changed place j new m). inl (record { here = ap suc c.here; is = c.is }))
    (λ (k : slice_get w j ≡ Some m). inr k)
    (set_get w place new j m e)

pub length_with : (w : World) (node : ℕ) (n : Node) → length (with_node w node n) ≡ length w
length_with w zero n = refl
length_with w (suc place) n = length-set w place n

-- the node of a world in which one changed
pub node_after : (P : ℕ → Node → Type 0) (w : World) (node : ℕ) (new : Node) → P node new → ((other : ℕ) (m : Node) → node_of w other ≡ Some m → P other m)
    → (other : ℕ) (m : Node) → node_of (with_node w node new) other ≡ Some m → P other m
node_after P w zero new h k other m e = k other m e
node_after P w (suc place) new h k zero m e = absurd cc
node_after P w (suc place) new h k (suc j) m e = ⊎_elim
    (λ (c : Changed place j new m). subst (λ z. P (suc z) m) (sym c.here) (subst (λ z. P (suc place) z) (sym c.is) h))
    (λ (was : slice_get w j ≡ Some m). k (suc j) m was)
    (set_get w place new j m e)

pub shaped_scene : (w : World) → AreShaped w → (x : Scene) → AreShaped (happens w x)
shaped_scene w shaped x = by_node (node_of w x.node) refl where
  by_event : (n : Node) → node_of w x.node ≡ Some n → (o : Option (Event AppliedState)) → AreShaped (option_map_or (after_step w x.node n (taken_in x.what)) o w)
  by_event n has None = shaped
  by_event n has (Some e) = record {
    each = λ other m is. subst (λ k. IsShaped k other m) (sym (length_with w x.node (step n e (taken_in x.what)).node))
        (node_after (IsShaped (length w)) w x.node (step n e (taken_in x.what)).node (shaped_step (length w) x.node n e (taken_in x.what) (shaped.each x.node n has)) shaped.each other m is);
  }

  by_node : (o : Option Node) → node_of w x.node ≡ o → AreShaped (option_map_or (happens_at w x) o w)
  by_node None has = shaped
  by_node (Some n) has = by_event n has (event_of w x.what)

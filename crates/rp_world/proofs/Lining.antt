-- A player through the events of a line.
use Rattle.std.proofs.Common.{◌≡◌, ℕ, zero, suc, ◌≤◌, ◌<◌, Option, None, Some, List, [], ◌∷◌, length, refl, sym, ap, subst, ◌∙◌, arith, slice_get}
use Rattle.std.specs.Option.{option_map, option_map_or}
use Rattle.rp_request.specs.Applied.{AppliedState}
use Rattle.rp_events.specs.declared.parcels.Parcel.{Parcel}
use Rattle.rp_events.specs.declared.world_events.WorldEvent.TheVariants as events
use Rattle.rp_events.specs.Nodes.{Node, parcel_of}
use Rattle.rp_events.specs.Worlds.{World, node_of, sent_by}
use Rattle.rp_lawful.specs.Comings.{Comes}
use Rattle.rp_lawful.proofs.Beside.{handled_leads}
use Rattle.rp_lines.specs.Settling.{with_handled}
use Rattle.rp_world.proofs.Below.{comes_deliver}
use Rattle.rp_lines.specs.Players.{Player}
use Rattle.rp_lines.specs.Scripts.{told_absent}
use Rattle.rp_script.specs.Bounds.{IsNode}
use Rattle.rp_world.specs.Going.{AsMany, Going}
use Rattle.rp_world.proofs.Onwards.{going_absent, many_absent}

-- it goes on behind what the line was told as it began
pub going_told : (p q : Player) (line node range : ℕ) → Going p → q ≡ told_absent line node range p → Going q
going_told p q line node range g is = subst (λ (m : Player). Going m) (sym is) (going_absent p line node range g)

-- its nodes are as many
pub node_on : (p q : Player) (node : ℕ) → AsMany p q → IsNode (length p.world.nodes) node → IsNode (length q.world.nodes) node
node_on p q node many h = subst (λ k. IsNode k node) (sym many) h

pub many_told : (p q : Player) (line node range : ℕ) → q ≡ told_absent line node range p → AsMany p q
many_told p q line node range is = ap (λ (m : Player). length m.world.nodes) is ∙ many_absent p line node range

pub node_told : (p q : Player) (line node range : ℕ) → q ≡ told_absent line node range p → IsNode (length p.world.nodes) node → IsNode (length q.world.nodes) node
node_told p q line node range is h = node_on p q node (many_told p q line node range is) h

-- the message that goes to this node
pub record GoesTo (o : Option (Parcel AppliedState)) (to : ℕ) : Type 0 where
  pub parcel : Parcel AppliedState
  pub is : o ≡ Some parcel
  pub at : parcel.to ≡ to

pub goes_to : (o : Option (Parcel AppliedState)) (to : ℕ) → option_map (λ p. p.to) o ≡ Some to → GoesTo o to
goes_to None to h = absurd (nothing h) where
  nothing : ◌≡◌ {A = Option ℕ} None (Some to) → ⊥
  nothing e = cc
goes_to (Some p) to h = record { parcel = p; is = refl; at = same p.to to h } where
  same : (a c : ℕ) → ◌≡◌ {A = Option ℕ} (Some a) (Some c) → a ≡ c
  same a c e = cc

-- a player goes on behind a message that is handled
pub going_handled : (p q : Player) (sender number to : ℕ) → Going p → option_map (λ (x : Parcel AppliedState). x.to) (parcel_of (sent_by p.world.nodes sender) number) ≡ Some to → q ≡ with_handled sender number p → Going q
going_handled p q sender number to g sent is =
    let m : GoesTo (parcel_of (sent_by p.world.nodes sender) number) to = goes_to (parcel_of (sent_by p.world.nodes sender) number) to sent in
    subst Going (sym is) (record { lines = g.lines; few = g.few; sound = (handled_leads g.lines p g.sound sender number m.parcel m.is).sound })

pub comes_handled : (p q : Player) (sender number to : ℕ) → Going p → option_map (λ (x : Parcel AppliedState). x.to) (parcel_of (sent_by p.world.nodes sender) number) ≡ Some to → q ≡ with_handled sender number p
    → Comes q.world (events.Deliver to sender number)
comes_handled p q sender number to g sent is =
    let m : GoesTo (parcel_of (sent_by p.world.nodes sender) number) to = goes_to (parcel_of (sent_by p.world.nodes sender) number) to sent in
    subst (λ (x : Player). Comes x.world (events.Deliver to sender number)) (sym is)
    (subst (λ k. Comes p.world (events.Deliver k sender number)) m.at (comes_deliver g.lines p g.sound sender number m.parcel m.is))

-- its sender has a list of what was handled
sender_there : (w : World) (sender number : ℕ) (p : Parcel AppliedState) → parcel_of (sent_by w sender) number ≡ Some p → sender ≤ length w
sender_there w zero number p h = omega arith
sender_there w (suc place) number p h = go (slice_get w place) refl where
  none_there : (number : ℕ) → parcel_of [] number ≡ Some p → ⊥
  none_there zero e = clash e where
    clash : ◌≡◌ {A = Option (Parcel AppliedState)} None (Some p) → ⊥
    clash e = cc
  none_there (suc k) e = absurd cc

  within : (xs : List Node) (i : ℕ) (n : Node) → slice_get xs i ≡ Some n → i < length xs
  within [] i n e = absurd cc
  within (x ∷ xs) zero n e = omega arith
  within (x ∷ xs) (suc i) n e = omega (arith, within xs i n e)

  go : (o : Option Node) → slice_get w place ≡ o → suc place ≤ length w
  go None is = absurd (none_there number (sym (ap (λ o. parcel_of (option_map_or (λ (n : Node). n.sent) o []) number) is) ∙ h))
  go (Some n) is = omega (arith, within w place n is)

pub sender_handled : (p : Player) (sender number to : ℕ) → Going p → option_map (λ (x : Parcel AppliedState). x.to) (parcel_of (sent_by p.world.nodes sender) number) ≡ Some to → sender ≤ length p.handled
sender_handled p sender number to g sent =
    let m : GoesTo (parcel_of (sent_by p.world.nodes sender) number) to = goes_to (parcel_of (sent_by p.world.nodes sender) number) to sent in
    omega (arith, sender_there p.world.nodes sender number m.parcel m.is, g.sound.handling.many)

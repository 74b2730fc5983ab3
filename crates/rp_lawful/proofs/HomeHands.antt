-- The lease asks that an event hands to Raft are for nodes of its world.
use Rattle.std.proofs.Common.{◌≡◌, ℕ, Some, List, [], ◌∷◌, map, sym, ap, subst}
use Rattle.std.specs.Prelude.{Contains}
use Rattle.std.specs.List.{AllByRecursion}
use Rattle.rp_base.specs.declared.items.Item.{Item}
use Rattle.rp_base.specs.declared.items.Item.TheVariants as items
use Rattle.rp_codec.specs.Spelling.{spelling}
use Rattle.rp_codec.proofs.SpellingLaws.{read_as_spelled}
use Rattle.rp_flush.specs.Assigns.{asks_of}
use Rattle.rp_raftsafe.specs.Proposed.{payloads_of}
use Rattle.rp_request.specs.Applied.{AppliedState}
use Rattle.rp_request.specs.Fits.{FitsPayload}
use Rattle.rp_request.specs.declared.commands.Payload.{Payload}
use Rattle.rp_request.specs.declared.commands.Payload.TheVariants as payloads
use Rattle.rp_events.specs.declared.node_events.Event.{Event}
use Rattle.rp_events.specs.Flushes.{assigning}
use Rattle.rp_events.specs.Nodes.{Node, Status, Live, seat}
use Rattle.rp_events.specs.Replicas.{Replica}
use Rattle.rp_events.specs.Worlds.{World, node_of}
use Rattle.rp_seats.specs.Scenes.{node_doings, as_event}
use Rattle.rp_seats.specs.Standing.{AreShaped}
use Rattle.rp_seats.specs.Views.{read, payload_or}
use Rattle.rp_turns.specs.Fitting.{AreFit}
use Rattle.rp_turns.proofs.Handed as handed
use Rattle.rp_turns.proofs.Homes.{IsHome, IsHomeItem, HomeStatus, AllHome}

-- a payload's lease ask is for one of so many nodes
abbrev pub HomePayload : ℕ → Payload → Type 0
HomePayload many payloads.Nothing = Unit {0}
HomePayload many (payloads.Write c) = Unit {0}
HomePayload many (payloads.Lease ask) = IsHome many ask

-- bytes that are read so
abbrev pub ReadsHome : ℕ → List ℕ → Type 0
ReadsHome many bytes = HomePayload many (read bytes)

-- the asks of an inbox
asks_home : (many : ℕ) (inbox : List Item) → AllByRecursion (IsHomeItem many) inbox → AllByRecursion (IsHome many) (asks_of inbox)
asks_home many [] h = tt
asks_home many (items.Write id ∷ inbox) h = asks_home many inbox h.1
asks_home many (items.Lease ask ∷ inbox) h = (h.0, asks_home many inbox h.1)

module _ (many : ℕ) where
  spelled : (p : Payload) → FitsPayload p → HomePayload many p → ReadsHome many (spelling p)
  spelled p f h = subst (HomePayload many) (sym (ap payload_or (read_as_spelled p f))) h

  seat_asks : (status : Status) → HomeStatus many status → (r : Replica) → status ≡ Live r → AllByRecursion (IsHome many) (assigning r).leases
  seat_asks status home r is = let h : HomeStatus many (Live r) = subst (HomeStatus many) is home in asks_home many r.inbox h.inbox

  -- what is handed to Raft
  pub node_handed : (w : World) → AreShaped w → (fit : AreFit w) → (node : ℕ) (n : Node) → (has : node_of w node ≡ Some n) → AllHome many n → (range : ℕ) (bytes : List ℕ)
      → (ev : Event AppliedState) (taken : List Item) → Contains (payloads_of (map (as_event range w node) (node_doings range n ev taken))) bytes → ReadsHome many bytes
  node_handed w shaped fit node n has homes =
      handed.node_handed (ReadsHome many) (IsHome many) (λ c f. spelled (payloads.Write c) f tt) (λ ask f home. spelled (payloads.Lease ask) f home) w shaped fit node n has
      (λ at r is. seat_asks (seat n at) (homes at) r is)

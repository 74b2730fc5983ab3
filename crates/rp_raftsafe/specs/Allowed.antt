-- What a replica's Raft asks for before an event, in every world that the numbers still fit.
use Rattle.std.specs.Prelude.{◌≡◌, ℕ, ◌+◌, ◌^◌, ◌<◌, Some, List, [], ◌∷◌, ◌++◌}
use Rattle.rp_raftstep.specs.declared.messages.Message.{Message}
use Rattle.rp_raftstep.specs.declared.events.RaftEvent.TheVariants.{Tick, Receive, Propose, Cut}
use Rattle.rp_raftstep.specs.Step.{tick, received}
use Rattle.rp_raftstep.specs.Conditions.{CanAppend, Allows}
use Rattle.rp_raftsafe.specs.World.{Range, IsRange, Replica, Ticks, Proposes, Event, Acts, Comes, site, message_of, world_after}
use Rattle.rp_raftsafe.specs.Bounds.{bound_after}
use Rattle.rp_raftsafe.specs.Safety.{IsLive}

-- the numbers of the schedule's world are below the largest of 64 bits
abbrev pub IsShort : {S : Type 0} → Range S → List Event → Type 0
IsShort g events = bound_after g events + 1 < 2 ^ 64

-- each event of the replica may be planned, and a tick or a message then extended by a Propose
pub record IsAllowed {S : Type 0} (g : Range S) (events : List Event) (node : ℕ) (r : Replica S)
    : Type 0 where
  pub tick_fits : IsShort g events → Allows {S = S} r.raft Tick
  pub tick_more : (again : List (List ℕ)) → IsShort g (events ++ Acts node (Ticks again) ∷ [])
      → CanAppend (tick {S = S} r.raft).state again
  pub receive_fits : (from number : ℕ) (message : Message S)
      → message_of (site (world_after g events) from) number ≡ Some (node, message)
      → IsShort g events → Allows r.raft (Receive from message)
  pub receive_more : (from number : ℕ) (message : Message S)
      → message_of (site (world_after g events) from) number ≡ Some (node, message)
      → (again : List (List ℕ)) → IsShort g (events ++ Comes from number again ∷ [])
      → CanAppend (received r.raft from message).state again
  pub propose_fits : (payloads : List (List ℕ)) → IsShort g (events ++ Acts node (Proposes payloads) ∷ [])
      → Allows {S = S} r.raft (Propose payloads)
  pub cut_fits : IsShort g events → Allows {S = S} r.raft (Cut r.applied)

-- each event of a reached world may be planned and extended, as long as the numbers fit
abbrev pub EventsAllowed : Type 0 → Type 0
EventsAllowed S =
    (g : Range S) → IsRange g → (events : List Event) (node : ℕ) (r : Replica S)
    → IsLive (world_after g events) node r → IsAllowed g events node r

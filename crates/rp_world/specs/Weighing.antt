-- What messages weigh, as it is counted along the way.
use Rattle.std.specs.Prelude.{◌≡◌, ℕ, min, map, sum_by, length, List}
use Rattle.rp_base.specs.Limits.{buffer_capacity}
use Rattle.rp_request.specs.Applied.{AppliedState}
use Rattle.rp_bufcore.specs.Buffers.{Buffer, buffer_of, fresh}
use Rattle.rp_events.specs.declared.parcels.Parcel.{Parcel}
use Rattle.rp_events.specs.Buffered.{Buffered, buffers_at}
use Rattle.rp_lines.specs.Players.{weight_of, weight, most_count}
use Rattle.rp_node.specs.Steps.{Held}
use Rattle.rp_world.specs.Comes.{buffered_of}

-- a count ends there
abbrev pub capped : ℕ → ℕ
capped n = min n most_count

-- what these messages weigh
abbrev pub load : List (Parcel AppliedState) → ℕ
load sent = sum_by weight_of sent

-- each buffer has its sixteen places
abbrev pub HasPlaces : Buffered → Type 0
HasPlaces b = (node range : ℕ) → length (buffer_of (buffers_at b node) range).slots ≡ buffer_capacity

-- the nodes' messages weigh so much, as far as it can be counted
pub record IsWeighed (nodes : List (Held (List Buffer))) (counted : ℕ) : Type 0 where
  pub weighs : counted ≡ capped (weight (map (λ h. h.node) nodes))
  pub places : HasPlaces (buffered_of nodes)

-- What stands beside the nodes of every reached world, with the spelling and the weight of what Raft
-- has seen (this project).
use Rattle.std.specs.Prelude.{◌≡◌, ℕ, ◌<◌, List, Contains, Ok}
use Rattle.rp_codec.specs.Reading.{payload_in}
use Rattle.rp_request.specs.Applied.{AppliedState}
use Rattle.rp_request.specs.declared.commands.Payload.{Payload}
use Rattle.rp_raftsafe.specs.World as raft
use Rattle.rp_raftsafe.specs.Safety.{OneList}
use Rattle.rp_raftsafe.specs.Proposed.{payloads_of}
use Rattle.rp_rangesafe.specs.Ranges.{Ranges}
use Rattle.rp_events.specs.Worlds.{World}
use Rattle.rp_bound.specs.Bounds.{Stands}
use Rattle.rp_low.specs.Weights.{IsWeighed}

-- the bytes spell a payload
pub record IsSpelled (bytes : List ℕ) : Type 0 where
  pub payload : Payload
  pub is : payload_in bytes ≡ Ok payload

-- all that was handed to Raft does
abbrev pub AllSpelled : List raft.Event → Type 0
AllSpelled seen = (bytes : List ℕ) → Contains (payloads_of seen) bytes → IsSpelled bytes

pub record IsFirm (lists : OneList AppliedState) (w : World) : Type 0 where
  pub ranges : Ranges
  pub seen : ℕ → List raft.Event
  pub stands : Stands lists w ranges seen
  pub weighed : (range : ℕ) → range < 8 → IsWeighed range w (seen range)
  pub spelled : (range : ℕ) → AllSpelled (seen range)

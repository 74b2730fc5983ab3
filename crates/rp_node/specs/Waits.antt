-- How long attempts have been pending, one seat after another.
use Rattle.std.specs.Prelude.{ℕ, ◌-◌, max, Option, None, Some, List, map, filter_map, fold}
use Rattle.rp_events.specs.Nodes.{first_round_in}
use Rattle.rp_node.specs.declared.seats.Seat.{Seat}
use Rattle.rp_node.specs.Cores.{status_of}

-- the longer one of a wait and of that of an attempt that was flushed first at this round
abbrev pub with_wait : (most rounds : ℕ) → (first : Option ℕ) → ℕ
with_wait most rounds None = most
with_wait most rounds (Some first) = max most (rounds - first)

-- the longest one, from this one on
abbrev pub waits_from : (rounds most : ℕ) → List Seat → ℕ
waits_from rounds most list =
    fold (λ m first. max m (rounds - first)) most (filter_map first_round_in (map status_of list))

-- What a refresh may pass over: a bound on what is proposed in each block of 32 slots, and one on
-- each row of 32 blocks.
use Rattle.std.specs.Prelude.{◌≡◌, ◌≢◌, ℕ, ◌+◌, ◌-◌, ◌*◌, ◌<◌, ◌≤◌, Bool, true, false, nat_le, filter_map, List, Option, None, Some, slice_get, unwrap_or}
use Rattle.std.specs.Option.{option_and_then}
use Rattle.rp_pending.specs.declared.bounds.Bound.{Bound}
use Rattle.rp_pending.specs.declared.bounds.Wanted.{Wanted}
use Rattle.rp_pending.specs.declared.bounds.Wanted.TheVariants.{Back, Again}
use Rattle.rp_pending.specs.declared.proposals.Proposal.{Proposal}
use Rattle.rp_pending.specs.declared.refreshes.Due.{Due}
use Rattle.rp_pending.specs.Dues.{again_due, back_due}
use Rattle.rp_pending.specs.Proposals.{is_proposed}
use Rattle.rp_pending.specs.Slots.{Slot}

-- the bound on any slots, which stands where none is kept
abbrev pub lowest : Bound
lowest = record { max = 0; since = 0 }

abbrev pub bound_at : List Bound → ℕ → Bound
bound_at bounds number = unwrap_or (slice_get bounds number) lowest

-- the first bounds all that the other does
abbrev pub Below : Bound → Bound → Type 0
Below a b = (a.max ≤ b.max) × (a.since ≤ b.since)

-- where it is proposed, its maximum and the tick of its last proposal are at or above the bound
abbrev pub IsBelow : Bound → Option Proposal → Type 0
IsBelow b None = Unit {0}
IsBelow b (Some p) = is_proposed p.stage ≡ true → (b.max ≤ p.max) × (b.since ≤ p.since)

-- each slot is bounded by the bound of its block; and each but the one at this place
abbrev pub Covers : List Bound → List Slot → Type 0
Covers narrow es =
    (k j : ℕ) (s : Slot) → j < 32 → slice_get es (k * 32 + j) ≡ Some s → IsBelow (bound_at narrow k) s.1

abbrev pub CoversBut : ℕ → List Bound → List Slot → Type 0
CoversBut place narrow es =
    (k j : ℕ) (s : Slot) → j < 32 → k * 32 + j ≢ place → slice_get es (k * 32 + j) ≡ Some s
    → IsBelow (bound_at narrow k) s.1

-- the bound of each block is bounded by that of its row
abbrev pub Spans : (wide narrow : List Bound) → Type 0
Spans wide narrow = (m k : ℕ) → k < 32 → Below (bound_at wide m) (bound_at narrow (m * 32 + k))

-- what a refresh looks for, where it does not concern all
abbrev pub wanted_of : Wanted → Proposal → Option Due
wanted_of (Back lai) p = back_due lai p
wanted_of (Again lai now) p = again_due lai now false p

-- whether it may stand where this bound holds
abbrev pub may_hold : Wanted → Bound → Bool
may_hold (Back lai) b = nat_le b.max lai
may_hold (Again lai now) b = nat_le 5 (now - b.since)

-- the slots, and how many more take no memory
pub record Shelved : Type 0 where
  pub entries : List Slot
  pub spare : ℕ

-- what is wanted of these slots, in their order
abbrev pub seen : Wanted → List Slot → List Due
seen wanted es = filter_map (λ s. option_and_then (wanted_of wanted) s.1) es

-- From which state a range starts, by the applied lists of all ranges.
use Rattle.std.specs.Prelude.{◌≡◌, ℕ, ◌-◌, ◌<◌, nat_le, if◌then◌else◌, List, ◌∷◌, ◌++◌, Some, Ok}
use Rattle.std.specs.FinMap.{empty}
use Rattle.rp_base.specs.declared.ids.CmdId.{CmdId}
use Rattle.rp_base.specs.declared.ranges.Desc.{Desc}
use Rattle.rp_base.specs.Leases.{first_lease}
use Rattle.rp_base.specs.Splits.{first_desc, split_of}
use Rattle.rp_request.specs.declared.items.Place.{Place}
use Rattle.rp_request.specs.declared.items.Place.TheVariants.{Split}
use Rattle.rp_base.specs.Tables.{from_on}
use Rattle.rp_request.specs.Items.{State, fold}

-- range 0 starts with no key
abbrev pub first_state : State
first_state = record { table = empty; desc = first_desc; lease = first_lease }

-- the range that a range was split off from: its number less the greatest power of two that is at
-- most that number, which is 1 to 7
abbrev pub left_range : ℕ → ℕ
left_range r = if nat_le 4 r then r - 4 else (if nat_le 2 r then r - 2 else r - 1)

-- the state of the range from the key on, where a range in this state splits
pub record IsRightStart (s : State) (key : ℕ) (right : State) : Type 0 where
  pub left : Desc
  pub desc : split_of s.desc key ≡ Ok (left, right.desc)
  pub table : right.table ≡ from_on s.table key
  pub lease : right.lease ≡ s.lease

-- these items, from this state on, split range r off, which starts from that state
pub record SplitsOff (start : State) (items : List Place) (r : ℕ) (right : State) : Type 0 where
  pub id : CmdId
  pub key : ℕ
  pub seq : ℕ
  pub before : List Place
  pub after : List Place
  pub here : items ≡ before ++ Split id key r seq ∷ after
  pub left : State
  pub reached : fold start before ≡ Some left
  pub begins : IsRightStart left key right

-- range r starts from this state: range 0 from the first, each other one from the split in the list
-- of the range that it was split off from
pub data IsStart (lists : ℕ → List Place) : ℕ → State → Type 0 where
  first : IsStart lists 0 first_state
  split_off : (r : ℕ) (start right : State) → 0 < r → IsStart lists (left_range r) start
      → SplitsOff start (lists (left_range r)) r right → IsStart lists r right

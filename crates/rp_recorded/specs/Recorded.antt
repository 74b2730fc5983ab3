-- What the nodes of a world have recorded of a range.
use Rattle.std.specs.Prelude.{◌≡◌, ℕ, ◌+◌, ◌<◌, List, length}
use Rattle.rp_base.specs.declared.ranges.Desc.{Desc}
use Rattle.rp_request.specs.History.{History}
use Rattle.rp_request.specs.declared.items.Record.{Record}
use Rattle.rp_report.specs.Shown.{IsShownDesc}
use Rattle.rp_events.specs.Worlds.{World}
use Rattle.rp_events.specs.Lists.{base_of, HasApplied, IsOneList}

-- the range has one list of records
pub record HasOneList (w : World) (range : ℕ) : Type 0 where
  pub list : List Record
  pub is : IsOneList w range list

-- some node has applied the whole list
pub record IsAllApplied (w : World) (range : ℕ) (list : List Record) : Type 0 where
  pub node : ℕ
  pub history : History
  pub applied : HasApplied w node range history
  pub all : history.index ≡ base_of range + length list

-- what has been applied of a range bears its number, which is below 8, and bounds that can be shown
pub record IsNumbered (range : ℕ) (desc : Desc) : Type 0 where
  pub number : desc.id ≡ range
  pub below : range < 8
  pub shown : IsShownDesc desc

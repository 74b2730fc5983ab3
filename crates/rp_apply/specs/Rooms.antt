-- Room for what is applied.
use Rattle.std.specs.Prelude.{ℕ, ◌+◌, ◌≤◌, length}
use Rattle.rp_request.specs.declared.commands.Payload.{Payload}
use Rattle.rp_request.specs.declared.commands.Payload.TheVariants.{Nothing, Write, Lease}
use Rattle.rp_request.specs.Applied.{AppliedState}
use Rattle.rp_request.specs.History.{History}

-- how many rows of the table, records and earlier pieces can be added without memory
pub record Room : Type 0 where
  pub rows : ℕ
  pub records : ℕ
  pub pieces : ℕ

-- the one room is no less than the other
pub record IsWithin (less more : Room) : Type 0 where
  pub rows : less.rows ≤ more.rows
  pub records : less.records ≤ more.records
  pub pieces : less.pieces ≤ more.pieces

-- how many rows a payload may add: one for each write
abbrev pub rows_of : Payload → ℕ
rows_of Nothing = 0
rows_of (Write c) = length c.batch
rows_of (Lease ask) = 0

-- the room that a payload needs: its rows, and one record
abbrev pub needed : Payload → Room
needed p = record { rows = rows_of p; records = 1; pieces = 0 }

-- two rooms together
abbrev pub together : Room → Room → Room
together x y = record { rows = x.rows + y.rows; records = x.records + y.records; pieces = x.pieces + y.pieces }

-- a state and the rows that can be added to its table without memory
pub record StateHeld : Type 0 where
  pub state : AppliedState
  pub rows : ℕ

-- what is applied, and the room beside it
pub record Held : Type 0 where
  pub history : History
  pub room : Room

-- What a clause says of a quota and of its shares (this project).
use Rattle.std.specs.Prelude.{◌≡◌, ◌≢◌, ℕ, ◌+◌, ◌<◌, ◌≤◌, [], ◌∷◌, ◌++◌, Result, Ok, Err}
use Rattle.rp_quota.specs.declared.quota.Quota.{Quota}
use Rattle.rp_quota.specs.declared.quota.Share.{Share}
use Rattle.rp_quota.specs.declared.faults.QuotaFault.{QuotaFault}
use Rattle.rp_quota.specs.declared.faults.QuotaFault.TheVariants.{Low, Raced}
use Rattle.rp_quota.specs.declared.rule.Holding.{Holding}
use Rattle.rp_quota.specs.declared.rule.Look.TheVariants.{Loaded, Asked}
use Rattle.rp_quota.specs.Units.{holding}

-- how many units a quota has
abbrev pub capacity_of : Quota → ℕ
capacity_of q = q.table.shared.key

-- what a share knows: its parts, the units that it holds, and what its steps told
abbrev pub known_by : Share → Holding
known_by s = s.seat.me.0

-- a share is one of this quota
abbrev pub IsShareOf : Quota → Share → Type 0
IsShareOf q s = s.seat.table_id ≡ q.table.shared.table_id

-- a share stays one of the same quota
abbrev pub IsSame : Share → Share → Type 0
IsSame old new = new.seat.table_id ≡ old.seat.table_id

-- What a call that asks for units tells. It loads the free units once. Where they are too few it
-- says so; else it exchanges them for the rest, once, and holds what it asked for exactly where the
-- exchange found the number that was loaded.
abbrev pub Takes : Holding → ℕ → Result (Unit {0}) QuotaFault → Holding → Type 0
Takes v units (Ok done) w =
    (free : ℕ) × (units ≤ free)
    × (w ≡ holding v.parts (v.units + units) ((v.looks ++ Loaded free ∷ []) ++ Asked free free ∷ []))
Takes v units (Err (Low free)) w =
    (free < units) × (w ≡ holding v.parts v.units (v.looks ++ Loaded free ∷ []))
Takes v units (Err (Raced free seen)) w =
    (units ≤ free) × (seen ≢ free)
    × (w ≡ holding v.parts v.units ((v.looks ++ Loaded free ∷ []) ++ Asked free seen ∷ []))

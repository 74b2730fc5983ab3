-- What a clause says of a slot table and of its passes (this project).
use Rattle.std.specs.Prelude.{◌≡◌, ◌≢◌, ℕ, ◌+◌, ◌<◌, ◌≤◌, List, [], ◌∷◌, ◌++◌, Result, Ok, Err}
use Rattle.rp_base.specs.declared.items.Item.{Item}
use Rattle.rp_buffer.specs.declared.table.SlotTable.{SlotTable}
use Rattle.rp_buffer.specs.declared.table.Pass.{Pass}
use Rattle.rp_buffer.specs.declared.faults.InsertFault.{InsertFault}
use Rattle.rp_buffer.specs.declared.faults.InsertFault.TheVariants.{Full, Raced}
use Rattle.rp_buffer.specs.declared.rule.Hand.{Hand}
use Rattle.rp_buffer.specs.declared.rule.Look.TheVariants.{Loaded, Asked}
use Rattle.rp_buffer.specs.Hands.{hand}

-- what a pass knows
abbrev pub known_by : Pass → Hand
known_by p = p.seat.me.0

-- a pass is one of this table
abbrev pub IsPassOf : SlotTable → Pass → Type 0
IsPassOf t p = p.seat.table_id ≡ t.table.shared.table_id

-- a pass stays one of the same table
abbrev pub IsSame : Pass → Pass → Type 0
IsSame old new = new.seat.table_id ≡ old.seat.table_id

-- What an insert tells. It loads the counter once. Where that is 16 it says so; else it asks, once,
-- to raise that number by one, and puts the item exactly where the exchange found the number that
-- was loaded.
abbrev pub Tells : Hand → ℕ → Item → Result (Unit {0}) InsertFault → Hand → Type 0
Tells v b x (Ok done) w =
    (n : ℕ) × (n < 16)
    × (w ≡ hand v.parts v.stage (v.put ++ (b, x) ∷ []) v.taken ((v.looks ++ Loaded b n ∷ []) ++ Asked b n n ∷ []) v.rights)
Tells v b x (Err (Full seen)) w =
    (seen ≡ 16) × (w ≡ hand v.parts v.stage v.put v.taken (v.looks ++ Loaded b seen ∷ []) v.rights)
Tells v b x (Err (Raced loaded seen)) w =
    (loaded < 16) × (seen ≢ loaded)
    × (w ≡ hand v.parts v.stage v.put v.taken ((v.looks ++ Loaded b loaded ∷ []) ++ Asked b loaded seen ∷ []) v.rights)

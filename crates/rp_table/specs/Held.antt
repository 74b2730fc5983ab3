-- What contracts see of a table: a finite map, and its spare room.
use Rattle.std.specs.Prelude.{ℕ, refl}
use Rattle.std.specs.Coded.{Coded, code_by, coded×, coded_ℕ}
use Rattle.rp_base.specs.Tables.{Table, table_code}

-- the map, and how many rows can be added without memory
pub record Held : Type 0 where
  pub map : Table
  pub spare : ℕ

-- such a pair is stored as the pair of its fields
abbrev pub held_code : Coded Held
held_code = code_by (Table × ℕ) (coded× table_code coded_ℕ) (λ h. (h.map, h.spare))
    (λ p. record { map = p.0; spare = p.1 }) (λ _. refl)

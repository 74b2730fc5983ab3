-- Bytes that are read from the front: those that are left, and the place at which they begin.
use Rattle.std.specs.Prelude.{ℕ, ◌+◌, List, drop, refl}
use Rattle.std.specs.Coded.{Coded, code_by, coded×, coded_list, coded_ℕ}

pub record Left : Type 0 where
  pub place : ℕ
  pub bytes : List ℕ

-- it is stored as the pair of its fields
abbrev pub left_code : Coded Left
left_code =
    code_by (ℕ × List ℕ) (coded× coded_ℕ (coded_list coded_ℕ)) (λ l. (l.place, l.bytes)) (λ p. record { place = p.0; bytes = p.1 }) (λ _. refl)

-- the same behind so many bytes
abbrev pub past : ℕ → Left → Left
past n left = record { place = left.place + n; bytes = drop n left.bytes }

-- all of the bytes
abbrev pub whole : List ℕ → Left
whole bytes = record { place = 0; bytes = bytes }

-- Where a key stands among rows in the order of their keys.
use Rattle.std.specs.Prelude.{◌≡◌, ◌≢◌, ℕ, ◌<◌, ◌≤◌, List, length, slice_index_or}
use Rattle.rp_base.specs.declared.values.Value.{Value}
use Rattle.rp_base.specs.declared.values.Value.TheVariants.{Number}

-- the key of the row at this place
abbrev pub key_at : List (ℕ × Value) → ℕ → ℕ
key_at rows n = (slice_index_or rows n (0, Number 0)).0

-- n rows stand before the key
pub record IsPlace (rows : List (ℕ × Value)) (key n : ℕ) : Type 0 where
  pub within : n ≤ length rows
  pub before : (j : ℕ) → j < n → key_at rows j < key
  pub after : (j : ℕ) → n ≤ j → j < length rows → key ≤ key_at rows j

-- the key's row stands at n
pub record IsFound (rows : List (ℕ × Value)) (key n : ℕ) : Type 0 where
  pub place : IsPlace rows key n
  pub here : n < length rows
  pub same : key_at rows n ≡ key

-- the key has no row, and its place is n
pub record IsGap (rows : List (ℕ × Value)) (key n : ℕ) : Type 0 where
  pub place : IsPlace rows key n
  pub new : n < length rows → key_at rows n ≢ key

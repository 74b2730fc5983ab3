-- Tables: what a range holds, as a finite map from the numbers of keys to values.
use Rattle.std.specs.Prelude.{◌≡◌, ℕ, ◌^◌, ◌-◌, ◌⊎◌, Bool, nat_lt, nat_le, ◌&&◌, not, List, refl}
use Rattle.std.specs.Ordering.{nat_cmp}
use Rattle.std.proofs.Common.{inl, inr}
use Rattle.std.specs.Coded.{Coded, code_by, coded⊎, coded_ℕ, coded_list}
use Rattle.std.specs.FinMap.{FinMap, code, get, len, retain_keys}
use Rattle.rp_base.specs.Values.{is_text, number_in}
use Rattle.rp_base.specs.declared.values.Value.{Value}
use Rattle.rp_base.specs.declared.values.Value.TheVariants.{Number, Text}

abbrev pub Table : Type 0
Table = FinMap {K = ℕ} nat_cmp Value

-- the greatest number that a key can have
abbrev pub greatest : ℕ
greatest = 2 ^ 64 - 1

-- the key's number, and 0 where it has none
abbrev pub value_at : Table → ℕ → ℕ
value_at t key = number_in (get t key)

-- whether the key holds a text
abbrev pub holds_text : Table → ℕ → Bool
holds_text t key = is_text (get t key)

-- whether a key lies from the start on and below the end
abbrev pub is_between : ℕ → ℕ → ℕ → Bool
is_between start end key = nat_le start key && nat_lt key end

-- the part of a table from the start on and below the end
abbrev pub part : Table → ℕ → ℕ → Table
part t start end = retain_keys t (is_between start end)

-- how many keys the table has from the start on and below the end
abbrev pub count_in : Table → ℕ → ℕ → ℕ
count_in t start end = len (part t start end)

-- the table without the keys from the start on and below the end
abbrev pub without : Table → ℕ → ℕ → Table
without t start end = retain_keys t (λ key. not (is_between start end key))

-- the part of a table below the key
abbrev pub below : Table → ℕ → Table
below t key = retain_keys t (λ k. nat_lt k key)

-- the part of a table from the key on
abbrev pub from_on : Table → ℕ → Table
from_on t key = retain_keys t (λ k. nat_le key k)

-- a value is stored as its number or as its text
abbrev pub parts : Value → ℕ ⊎ List ℕ
parts (Number n) = inl n
parts (Text text) = inr text

abbrev pub whole : ℕ ⊎ List ℕ → Value
whole (inl n) = Number n
whole (inr text) = Text text

pub whole_parts : (v : Value) → whole (parts v) ≡ v
whole_parts (Number n) = refl
whole_parts (Text text) = refl

abbrev pub value_code : Coded Value
value_code = code_by (ℕ ⊎ List ℕ) (coded⊎ coded_ℕ (coded_list coded_ℕ)) parts whole whole_parts

abbrev pub table_code : Coded Table
table_code = code coded_ℕ value_code

-- How keys are spelled, and the numbers that stand for them.
use Rattle.std.specs.Prelude.{◌≡◌, ℕ, ◌-◌, ◌^◌, ◌<◌, ◌≤◌, min, Bool, false, slice_index, ◌&&◌, ◌||◌, ◌==◌, nat_lt, if◌then◌else◌, ◌⊎◌, List, [], ◌∷◌, ◌++◌, length, replicate, Option, None, Some, Result, Ok, Err}
use Rattle.std.specs.Char.{is_ascii_lowercase, is_ascii_digit}
use Rattle.std.specs.Int.{w128, to_be_bytes, from_be_bytes}
use Rattle.std.specs.List.{prefix_len, before_first}
use Rattle.rp_base.specs.declared.keys.BadKey.{BadKey}

-- the bytes of a key: `a` to `z`, `0` to `9`, `/`, `_`, `-`
abbrev pub is_key_byte : ℕ → Bool
is_key_byte b = is_ascii_lowercase b || is_ascii_digit b || (b == 47 || b == 95 || b == 45)

-- how many bytes from the front on may stand in one key, of which there are at most 16
abbrev pub key_len : List ℕ → ℕ
key_len bs = min (prefix_len is_key_byte bs) 16

-- the place keeps the text from being a key: the empty text's first, a byte outside the alphabet, a byte past the 16th
abbrev pub IsBadPlace : List ℕ → ℕ → Type 0
IsBadPlace bs place = ((length bs ≡ 0) × (place ≡ 0)) ⊎ ((place < length bs) × ((is_key_byte (slice_index bs place) ≡ false) ⊎ (16 ≤ place)))

-- the number of a key: its bytes in front of zero bytes, 16 together, the first byte highest
unfoldable pub key_number : List ℕ → ℕ
key_number bs = from_be_bytes w128 (bs ++ replicate (16 - length bs) 0)

-- what is read: the number of a key, or the least place that keeps the text from being one
unfoldable pub key_of : List ℕ → Result ℕ BadKey
key_of bs = if nat_lt 0 (key_len bs) && key_len bs == length bs
    then Ok (key_number bs)
    else Err (record { place = key_len bs })

-- how a key's number is spelled: its bytes before the zero bytes
unfoldable pub key_text : ℕ → List ℕ
key_text n = before_first (λ b. b == 0) (to_be_bytes w128 n)

-- some spelling has this number
abbrev pub IsKey : ℕ → Type 0
IsKey n = (bs : List ℕ) × (key_of bs ≡ Ok n)

-- the bounds that are shown: the least, the greatest, and the keys
abbrev pub IsShown : ℕ → Type 0
IsShown n = (n ≡ 0) ⊎ (n ≡ 2 ^ 128 - 1) ⊎ IsKey n

-- how a bound is shown: `^` for the least, `~` for the greatest, else as a key
abbrev pub bound_text : ℕ → List ℕ
bound_text n = if n == 0 then 94 ∷ [] else (if n == 2 ^ 128 - 1 then 126 ∷ [] else key_text n)

-- the end of a span of keys: a key's number, or the greatest bound where none is given
abbrev pub end_of : Option ℕ → ℕ
end_of None = 2 ^ 128 - 1
end_of (Some key) = key

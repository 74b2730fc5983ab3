-- Short texts: what a value may hold beside a number.
use Rattle.std.specs.Prelude.{◌≡◌, ℕ, ◌-◌, ◌<◌, ◌≤◌, min, Bool, false, slice_index, ◌&&◌, ◌==◌, nat_le, if◌then◌else◌, ◌⊎◌, List, ◌++◌, length, take, replicate, Result, Ok, Err}
use Rattle.std.specs.List.{prefix_len}
use Rattle.rp_base.specs.declared.short_texts.BadText.{BadText}

-- the bytes of a text: those that are shown, without the blank
abbrev pub is_text_byte : ℕ → Bool
is_text_byte b = nat_le 33 b && nat_le b 126

-- how many bytes from the front on may stand in one text, of which there are at most 64
abbrev pub good_len : List ℕ → ℕ
good_len bs = min (prefix_len is_text_byte bs) 64

-- what is read: the bytes themselves, or the least place that keeps them from being a text
unfoldable pub text_of : List ℕ → Result (List ℕ) BadText
text_of bs = if good_len bs == length bs then Ok bs else Err (record { place = good_len bs })

-- the bytes are a text
pub record IsText (bs : List ℕ) : Type 0 where
  pub short : length bs ≤ 64
  pub good : prefix_len is_text_byte bs ≡ length bs

-- the place keeps the bytes from being a text: a byte that no text has, or one past the 64th
abbrev pub IsBadTextPlace : List ℕ → ℕ → Type 0
IsBadTextPlace bs place =
    (place < length bs) × ((is_text_byte (slice_index bs place) ≡ false) ⊎ (64 ≤ place))

-- the bytes in front of zero bytes, 64 together
abbrev pub padded : List ℕ → List ℕ
padded bs = bs ++ replicate (64 - length bs) 0

-- how a text is kept: its bytes in front of zero bytes, and how many they are
pub record IsKept (bytes : List ℕ) (len : ℕ) : Type 0 where
  pub short : len ≤ 64
  pub whole : length (take len bytes) ≡ len
  pub zero : padded (take len bytes) ≡ bytes
  pub good : prefix_len is_text_byte (take len bytes) ≡ len

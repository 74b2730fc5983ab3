-- How numbers are read.
use Rattle.std.specs.Prelude.{ℕ, ◌^◌, ◌&&◌, ◌==◌, nat_lt, if◌then◌else◌, List, length, Result, Ok, Err}
use Rattle.std.specs.Char.{is_ascii_digit}
use Rattle.std.specs.List.{prefix_len}
use Rattle.std.specs.Str.Parse.{digits_value}
use Rattle.rp_base.specs.declared.numbers.NumberFault.{NumberFault}
use Rattle.rp_base.specs.declared.numbers.NumberFault.TheVariants.{NotNumber, TooLarge}

-- the value of decimal digits
abbrev pub number_of : List ℕ → ℕ
number_of bs = digits_value 10 bs

-- how many digits stand in front
abbrev pub digits_len : List ℕ → ℕ
digits_len bs = prefix_len is_ascii_digit bs

-- what is read: the value of digits, leading zeros or not, up to the greatest number of 64 bits
unfoldable pub u64_of : List ℕ → Result ℕ NumberFault
u64_of bs = if nat_lt 0 (digits_len bs) && digits_len bs == length bs
    then (if nat_lt (number_of bs) (2 ^ 64) then Ok (number_of bs) else Err TooLarge)
    else Err (NotNumber (digits_len bs))

-- The four ranges that a generated script makes by splits, by number (this project).
use Rattle.std.specs.Prelude.{ℕ, ◌*◌, ◌/◌, ◌%◌, Bool, ◌&&◌, ◌==◌, nat_lt, nat_le, if◌then◌else◌}

-- the first key of a range: range 1 is split off at key 500, range 2 at 250, range 3 at 750
abbrev pub first_key : ℕ → ℕ
first_key range =
    if range == 0 then 0 else (if range == 1 then 500 else (if range == 2 then 250 else 750))

-- the range that a range is split off from
abbrev pub left_of : ℕ → ℕ
left_of range = if range == 3 then 1 else 0

-- the range of a key, where so many ranges are made
abbrev pub range_of : (made key : ℕ) → ℕ
range_of made key =
    if nat_le 4 made && nat_le 750 key then 3
    else (if nat_le 2 made && nat_le 500 key then 1
    else (if nat_le 3 made && nat_le 250 key then 2 else 0))

-- the next split comes where as many quarters of the commands are written as ranges are made, but
-- for less than four commands
abbrev pub split_is_due : (size before made : ℕ) → Bool
split_is_due size before made =
    nat_le 4 size && nat_lt made 4 && before == made * (size / 4)

-- a lease moves where one to twelve thirteenths of the commands are written, but for less than
-- thirteen commands
abbrev pub transfer_is_due : (size before : ℕ) → Bool
transfer_is_due size before =
    nat_le 13 size && before % (size / 13) == 0
    && nat_le 1 (before / (size / 13)) && nat_le (before / (size / 13)) 12

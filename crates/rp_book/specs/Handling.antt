-- Which of a sender's messages were handled: delivered, or passed over for good (this project).
use Rattle.std.specs.Prelude.{ℕ, ◌+◌, ◌-◌, Bool, true, false, List, ◌++◌, length, replicate, slice_index_or, slice_set}
use Rattle.std.specs.List.{prefix_len}

-- of each message in order, from number 1 on, whether it was handled; none that stands behind the list was
abbrev pub Handling : Type 0
Handling = List Bool

-- whether the message with this number was handled
abbrev pub is_handled : (number : ℕ) → Handling → Bool
is_handled number h = slice_index_or h (number - 1) false

-- as many messages as this are in the list, or more
abbrev pub padded : (count : ℕ) → Handling → Handling
padded count h = h ++ replicate (count - length h) false

-- the message with this number is handled from now on
abbrev pub handled : (number : ℕ) → Handling → Handling
handled number h = slice_set (padded number h) (number - 1) true

-- the number of the first message that was not handled
abbrev pub first_unhandled : Handling → ℕ
first_unhandled h = prefix_len (λ was. was) h + 1

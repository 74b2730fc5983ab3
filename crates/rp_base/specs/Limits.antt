-- Numbers that several crates share (this project).
use Rattle.std.specs.Prelude.{ℕ}

-- how many items a proposal buffer takes
abbrev pub buffer_capacity : ℕ
buffer_capacity = 16

-- how many writes a batch has at most
abbrev pub batch_most : ℕ
batch_most = 16

-- the first term of a range's log
abbrev pub first_term : ℕ
first_term = 1

-- How many commands each client has, as a list of 64 numbers: the one of client 1 comes first.
use Rattle.std.specs.Prelude.{ℕ, ◌+◌, ◌-◌, List, replicate, slice_index, slice_set}

-- no client has any
abbrev pub no_counts : List ℕ
no_counts = replicate 64 0

-- how many the client has
abbrev pub count_of : List ℕ → ℕ → ℕ
count_of counts client = slice_index counts (client - 1)

-- the client has one more
abbrev pub one_more_of : List ℕ → ℕ → List ℕ
one_more_of counts client = slice_set counts (client - 1) (count_of counts client + 1)

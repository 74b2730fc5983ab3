-- The writes of a request: which they are, and what they make of a table.
use Rattle.std.specs.Prelude.{ℕ, ◌+◌, ◌-◌, ◌==◌, if◌then◌else◌, List, [], ◌∷◌, map}
use Rattle.std.specs.FinMap.{insert, remove, keys}
use Rattle.rp_base.specs.Keys.{end_of}
use Rattle.rp_base.specs.declared.values.Value.TheVariants.{Number}
use Rattle.rp_request.specs.declared.commands.Op.{Op}
use Rattle.rp_request.specs.declared.commands.Op.TheVariants.{Set, Remove}
use Rattle.rp_request.specs.declared.requests.Request.{Request}
use Rattle.rp_request.specs.declared.requests.Request.TheVariants.{Put, Add, CPut, Del, Wipe, Move, Split}
use Rattle.rp_base.specs.Tables.{Table, value_at, part, below}

-- the table after one write
abbrev pub write : Table → Op → Table
write t (Set key value) = insert t key value
write t (Remove key) = remove t key

-- the table after writes, one by one in their order
abbrev pub write_all : Table → List Op → Table
write_all t [] = t
write_all t (op ∷ ops) = write_all (write t op) ops

-- what a request with this batch makes of a table: the part below the key of a split, and else the
-- writes of the batch
abbrev pub after_batch : Table → Request → List Op → Table
after_batch t (Put key value) ops = write_all t ops
after_batch t (Add key by) ops = write_all t ops
after_batch t (CPut key expect value) ops = write_all t ops
after_batch t (Del key) ops = write_all t ops
after_batch t (Wipe span) ops = write_all t ops
after_batch t (Move from to by) ops = write_all t ops
after_batch t (Split key) ops = below t key

-- the keys of a wipe, ascending
abbrev pub removes : List ℕ → List Op
removes ks = map Remove ks

-- the numbers of both keys of a move, which may be one key
abbrev pub moves : Table → ℕ → ℕ → ℕ → List Op
moves t from to by = if from == to
    then Set from (Number (value_at t from)) ∷ []
    else Set from (Number (value_at t from - by)) ∷ Set to (Number (value_at t to + by)) ∷ []

-- the batch of a request, by the table on which it is evaluated
abbrev pub batch_of : Table → Request → List Op
batch_of t (Put key value) = Set key value ∷ []
batch_of t (Add key by) = Set key (Number (value_at t key + by)) ∷ []
batch_of t (CPut key expect value) = Set key value ∷ []
batch_of t (Del key) = Remove key ∷ []
batch_of t (Wipe span) = removes (keys (part t span.start (end_of span.end)))
batch_of t (Move from to by) = moves t from to by
batch_of t (Split key) = []

-- the key that is written
abbrev pub key_of : Op → ℕ
key_of (Set key value) = key
key_of (Remove key) = key

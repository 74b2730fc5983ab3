-- What lines of a script have to tell (this project's notes).
use Rattle.std.specs.Prelude.{ℕ, List, ◌++◌, Option, codes}
use Rattle.rp_base.specs.declared.leases.Lease.{Lease}
use Rattle.rp_base.specs.declared.values.Value.{Value}
use Rattle.rp_report.specs.Words.{spaced, spaced_key, value_or_none}

-- a draw found no place
abbrev pub full_text : List ℕ
full_text = codes "full 16"

-- the command's latest attempt was not refused
abbrev pub not_refused_text : List ℕ
not_refused_text = codes "not-refused"

-- the node has no live replica of the range
abbrev pub absent_text : List ℕ
absent_text = codes "no-replica"

-- there was nothing to do
abbrev pub nothing_text : List ℕ
nothing_text = codes "nothing"

-- a transfer by a node that does not hold the lease
abbrev pub not_holder_text : Lease → List ℕ
not_holder_text lease = codes "not-lease-holder" ++ spaced lease.holder ++ spaced lease.seq

-- another node's lease has not run out
abbrev pub held_text : Lease → (ticks : ℕ) → List ℕ
held_text lease ticks =
    codes "lease-held" ++ spaced lease.holder ++ spaced lease.seq ++ spaced lease.expires
    ++ spaced ticks

-- the applied value of a key, and the applied index
abbrev pub peek_text : (key : ℕ) → Option Value → (applied : ℕ) → List ℕ
peek_text key value applied =
    codes "peek" ++ spaced_key key ++ codes " " ++ value_or_none value
    ++ codes " applied" ++ spaced applied

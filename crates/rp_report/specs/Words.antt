-- The words of a report that stand in many of its lines.
use Rattle.std.specs.Prelude.{ℕ, List, [], ◌∷◌, ◌++◌, Option, Some, None, codes}
use Rattle.std.specs.Fmt.{decimal}
use Rattle.rp_base.specs.Keys.{key_text, bound_text}
use Rattle.rp_base.specs.declared.CmdId.{CmdId}
use Rattle.rp_base.specs.Values.{value_text}
use Rattle.rp_base.specs.declared.Lease.{Lease}
use Rattle.rp_base.specs.declared.values.Value.{Value}

-- the end of a line
abbrev pub newline : List ℕ
newline = 10 ∷ []

-- a number behind a space
abbrev pub spaced : ℕ → List ℕ
spaced n = codes " " ++ decimal n

-- a key behind a space
abbrev pub spaced_key : ℕ → List ℕ
spaced_key key = codes " " ++ key_text key

-- a bound behind a space
abbrev pub spaced_bound : ℕ → List ℕ
spaced_bound bound = codes " " ++ bound_text bound

-- a value behind a space
abbrev pub spaced_value : Value → List ℕ
spaced_value value = codes " " ++ value_text value

-- a value, or that there is none
abbrev pub value_or_none : Option Value → List ℕ
value_or_none None = codes "none"
value_or_none (Some value) = value_text value

-- an attempt of a command: the client and the command's number, then the attempt's
abbrev pub attempt_text : CmdId → List ℕ
attempt_text id = decimal id.client ++ codes "." ++ decimal id.seq ++ spaced id.attempt

-- a lease: its holder, its number, and the tick at which it expires
abbrev pub lease_text : Lease → List ℕ
lease_text lease = decimal lease.holder ++ spaced lease.seq ++ spaced lease.expires

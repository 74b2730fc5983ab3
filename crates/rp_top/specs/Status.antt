-- The exit status of each answer of a call.
use Rattle.std.specs.Prelude.{ℕ}
use Rattle.rp_top.specs.declared.statuses.Status.{Status}
use Rattle.rp_top.specs.declared.statuses.Status.TheVariants.{Ok, Usage, Refused, Limit, ReadFault, WriteFault, NoMemory, Unfinished}

-- the exit status of an answer
abbrev pub code_of : Status → ℕ
code_of Ok = 0
code_of Usage = 2
code_of (Refused line word kind) = 3
code_of (Limit which count) = 4
code_of ReadFault = 5
code_of WriteFault = 6
code_of NoMemory = 7
code_of (Unfinished unended) = 8

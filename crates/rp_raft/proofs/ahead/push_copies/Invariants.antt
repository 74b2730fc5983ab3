use Rattle.std.proofs.Common.{◌≡◌, ◌++◌, take}
use Rattle.rp_raft.proofs.ahead.push_copies.Given as goal

-- the entries so far are copied
abbrev pub invariant-loop-entry : goal.invariant-loop-entry
invariant-loop-entry l = l.entries ≡ l.initial.entries ++ take l.entry-index l.more

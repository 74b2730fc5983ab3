use Rattle.std.proofs.Common.{◌≡◌, take, drop}
use Rattle.rp_raftlog.proofs.segments.Segments.copies.Given as goal

-- the entries so far are copied
abbrev pub invariant-loop-index : goal.invariant-loop-index
invariant-loop-index l = l.copies.items ≡ take l.index (drop l.from l.self.entries)

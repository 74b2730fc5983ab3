use Rattle.std.proofs.Common.{take}
use Rattle.rp_latch.specs.Indexes.{latch_meets, IsOldest}
use Rattle.rp_latch.proofs.index.Index.oldest.Given as goal

abbrev pub invariant-loop-at : goal.invariant-loop-at
invariant-loop-at l = IsOldest (latch_meets l.fn.span) (take l.at l.self-inside.latches.list) l.oldest

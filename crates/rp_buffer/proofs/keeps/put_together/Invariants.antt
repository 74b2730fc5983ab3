use Rattle.std.proofs.Common.{◌≡◌}
use Rattle.rp_buffer.proofs.Ends.{merged}
use Rattle.rp_buffer.proofs.keeps.put_together.Given as goal

-- the rights below this one are taken in
abbrev pub invariant-loop-number : goal.invariant-loop-number
invariant-loop-number l = l.rights ≡ merged l.number l.fn.rights l.more

use Rattle.rp_node.proofs.Silence.{CountsLeft}
use Rattle.rp_node.proofs.cores.Core.count_all.Given as goal

-- the turns that are left lead from here where all led from the start
abbrev pub invariant-loop-range : goal.invariant-loop-range
invariant-loop-range l = CountsLeft l.initial.self l.range l.self

use Rattle.rp_node.specs.Cores.{node_of}
use Rattle.rp_node.proofs.Ticking.{TurnsLeft}
use Rattle.rp_node.proofs.cores.Core.happen_all.Given as goal

-- the turns that are left lead from here where all led from the start
abbrev pub invariant-loop-plan : goal.invariant-loop-plan
invariant-loop-plan l = TurnsLeft l.fn.happens (node_of l.initial.self) l.number l.self l.plan-iterator.rest.items

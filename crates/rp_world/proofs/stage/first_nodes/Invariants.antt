use Rattle.std.proofs.Common.{◌≡◌}
use Rattle.rp_world.proofs.Starting.{first_helds}
use Rattle.rp_world.proofs.stage.first_nodes.Given as goal

-- the nodes so far
abbrev pub invariant-loop-number : goal.invariant-loop-number
invariant-loop-number l = l.list.items ≡ first_helds l.nodes l.number

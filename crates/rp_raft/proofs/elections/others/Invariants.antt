use Rattle.std.proofs.Common.{◌≡◌, filter, not, ◌==◌}
use Rattle.rp_raftstep.specs.RaftState.{nodes_to}
use Rattle.rp_raft.proofs.elections.others.Given as goal

-- the others so far
abbrev pub invariant-loop-number : goal.invariant-loop-number
invariant-loop-number l = l.others ≡ filter (λ node. not (node == l.own)) (nodes_to l.number)

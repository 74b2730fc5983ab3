use Rattle.std.proofs.Common.{◌≡◌, ◌++◌, filter, not, ◌==◌}
use Rattle.rp_raftstep.specs.RaftState.{nodes_to}
use Rattle.rp_raftstep.specs.Step.{sends_among}
use Rattle.rp_raft.specs.Plans.{ahead, with_commit}
use Rattle.rp_raft.proofs.rafts.Raft.push_to_others.Given as goal

-- what is sent to the others so far stands behind
abbrev pub invariant-loop-number : goal.invariant-loop-number
invariant-loop-number g l =
    l.messages ≡ l.initial.messages
    ++ sends_among (g.M.MakeSnap.index l.snap) (g.M.MakeSnap.snapshot l.snap) (ahead (with_commit l.head l.commit) l.self.raft.log l.added) (filter (λ node. not (node == l.head.node)) (nodes_to l.number))

use Rattle.std.proofs.Common.{◌≡◌, ◌≤◌, true, take, All}
use Rattle.rp_raftstep.specs.RaftState.{is_majority}
use Rattle.rp_raft.specs.Plans.{at_least}
use Rattle.rp_raft.proofs.commits.reach.Given as goal

-- what a majority has of those looked at lies within the reach
abbrev pub invariant-loop-known : goal.invariant-loop-known
invariant-loop-known l = All (λ k. is_majority l.head (at_least k l.matched) ≡ true → k ≤ l.reach) (take l.known-index l.matched)

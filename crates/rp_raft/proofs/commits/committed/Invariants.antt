use Rattle.std.proofs.Common.{◌≡◌, ◌-◌, max}
use Rattle.rp_raftstep.specs.Step.{committable, greatest, is_committable}
use Rattle.rp_raft.specs.Plans.{ahead}
use Rattle.rp_raft.proofs.commits.committed.Given as goal

-- nothing that passed is committable
abbrev pub invariant-loop-index : goal.invariant-loop-index
invariant-loop-index l = max l.head.commit (greatest (is_committable (ahead l.head l.log.log l.added)) l.index) ≡ max l.head.commit (committable (ahead l.head l.log.log l.added))

abbrev pub decreases-loop-index : goal.decreases-loop-index
decreases-loop-index l = l.index - l.head.commit

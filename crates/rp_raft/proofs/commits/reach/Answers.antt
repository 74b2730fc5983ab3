use Rattle.std.proofs.Common.{◌≡◌, ◌≤◌, true, All, subst, take_all, arith}
use Rattle.rp_raftstep.specs.RaftState.{is_majority}
use Rattle.rp_raft.specs.Plans.{at_least}
use Rattle.rp_raft.proofs.Reach.{above, more, no_majority}
use Rattle.rp_raft.proofs.commits.reach.Goals as goal

pub loop-known-preserved : goal.loop-known-preserved
loop-known-preserved c =
    more (λ n. is_majority c.args.head.now n) c.args.matched.now c.loop-known.reach c.reach_with-reach.result c.loop-known.known-index 0
    c.loop-known-test.true c.loop-known.invariant c.reach_with-reach.ensures.more c.reach_with-reach.ensures.known

pub returns : goal.returns
returns c =
    above (λ n. is_majority c.args.head.now n) c.args.matched.now c.loop-known.reach (no_majority c.args.head.now)
    (subst (All (λ k. is_majority c.args.head.now (at_least k c.args.matched.now) ≡ true → k ≤ c.loop-known.reach))
    (take_all c.loop-known.known-index c.args.matched.now (omega arith)) c.loop-known.invariant)

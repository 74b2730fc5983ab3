use Rattle.std.proofs.Common.{not, ◌==◌}
use Rattle.rp_raftstep.specs.Step.{to_peer}
use Rattle.rp_raft.specs.Plans.{ahead, with_commit}
use Rattle.rp_raft.proofs.Nodes.{made_more}
use Rattle.rp_raft.proofs.rafts.Raft.push_to_others.Goals as goal

pub loop-number-preserved : goal.loop-number-preserved
loop-number-preserved g c =
    made_more (λ node. (node, to_peer (g.M.MakeSnap.index c.args.snap.now) (g.M.MakeSnap.snapshot c.args.snap.now) (ahead (with_commit c.args.head.now c.args.commit) c.args.self.now.raft.log c.args.added.now) node))
    (λ node. not (node == c.args.head.now.node)) c.loop-number.number c.args.messages.now _ _ c.loop-number.invariant c.in_ok-push_to_other.ensures

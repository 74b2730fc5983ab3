use Rattle.std.proofs.Common.{[], ap, map, subst, sym, take}
use Rattle.std.proofs.lemmas.List.{take_all}
use Rattle.rp_events.specs.Worlds.{World}
use Rattle.rp_racelines.specs.Latest.{AreLatest}
use Rattle.rp_racelines.proofs.Judged.{nodes_more}
use Rattle.rp_racelines.proofs.Noting.{none_known}
use Rattle.rp_racelines.proofs.attempts.latest_of.Goals as goal

pub loop-node-init : goal.loop-node-init
loop-node-init g c = subst (λ known. AreLatest [] known) (sym c.new-attempts.ensures.empty) none_known

pub loop-node-preserved : goal.loop-node-preserved
loop-node-preserved g c =
    let nodes = c.args.nodes.now in
    let i = c.loop-node.node-index in
    subst (λ (w : World). AreLatest w c.note_node.new.attempts.entries) (sym (nodes_more nodes i c.node-item.result c.loop-node-test.true c.node-item.is))
    (c.in_ok-note_node.ensures (map (λ h. h.node) (take i nodes)) c.loop-node.invariant)

pub returns : goal.returns
returns g c =
    subst (λ (w : World). AreLatest w c.loop-node.attempts.entries)
    (ap (map (λ h. h.node)) (take_all c.loop-node.node-index c.args.nodes.now c.loop-node-test.false)) c.loop-node.invariant

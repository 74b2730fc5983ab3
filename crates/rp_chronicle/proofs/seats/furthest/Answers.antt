use Rattle.std.proofs.Common.{◌+◌, ◌∙◌, ap, take}
use Rattle.rp_chronicle.specs.Worlds.{furthest_of, world_of}
use Rattle.rp_chronicle.proofs.Several.{all_nodes, furthest_more_nodes, more_nodes}
use Rattle.rp_chronicle.proofs.seats.furthest.Goals as goal

pub loop-node-preserved : goal.loop-node-preserved
loop-node-preserved g c =
    let i = c.loop-node.node-index in
    let nodes = c.args.nodes.now in
    let n = c.node-item.result in
    furthest_more_nodes (world_of (take i nodes)) (world_of (take (i + 1) nodes)) n.node c.args.range _ _ _
    (more_nodes nodes i n c.loop-node-test.true c.node-item.is) c.further-most.ensures c.loop-node.invariant c.applied_at.ensures

pub returns : goal.returns
returns g c = c.loop-node.invariant ∙ ap (λ w. furthest_of w c.args.range) (all_nodes c.args.nodes.now c.loop-node.node-index c.loop-node-test.false)

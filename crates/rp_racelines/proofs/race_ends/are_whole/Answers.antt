use Rattle.std.proofs.Common.{◌∙◌, ap, map, suc, sym}
use Rattle.rp_racelines.specs.Judging.{ends_whole}
use Rattle.rp_racelines.proofs.Judged.{all_but_one, node_in}
use Rattle.rp_racelines.proofs.race_ends.are_whole.Goals as goal

pub returns-then-not-ends_whole : goal.returns-then-not-ends_whole
returns-then-not-ends_whole g c =
    let nodes = c.args.nodes.now in
    sym (all_but_one (λ n. ends_whole n.journal) (map (λ h. h.node) nodes) (suc c.loop-node.node-index) c.node-item.result.node
    (node_in nodes c.loop-node.node-index c.node-item.result c.loop-node-test.true c.node-item.is)
    (sym (c.ends_whole.ensures ∙ ap ends_whole c.journal.ensures) ∙ c.if-not-ends_whole.true))

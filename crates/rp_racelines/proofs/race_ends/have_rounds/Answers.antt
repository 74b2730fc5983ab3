use Rattle.std.proofs.Common.{◌∙◌, arith, length, map, suc, sym}
use Rattle.rp_racelines.specs.Judging.{has_rounds}
use Rattle.rp_racelines.proofs.Judged.{all_but_one, eight_seats, node_in, rounds_fail}
use Rattle.rp_racelines.proofs.race_ends.have_rounds.Goals as goal

pub has_live-requires : goal.has_live-requires
has_live-requires g c =
    let nodes = c.args.nodes.now in
    eight_seats (length nodes) (map (λ h. h.node) nodes) c.requires (suc c.loop-node.node-index) c.node-item.result.node
    (node_in nodes c.loop-node.node-index c.node-item.result c.loop-node-test.true c.node-item.is)

pub returns-then-rounds : goal.returns-then-rounds
returns-then-rounds g c =
    let nodes = c.args.nodes.now in
    sym (all_but_one (has_rounds c.args.rounds) (map (λ h. h.node) nodes) (suc c.loop-node.node-index) c.node-item.result.node
    (node_in nodes c.loop-node.node-index c.node-item.result c.loop-node-test.true c.node-item.is)
    (rounds_fail c.args.rounds c.node-item.result.node (sym c.has_live.ensures ∙ c.if-has_live.true)
    (let less = c.if-rounds.true in let is = c.rounds.ensures in omega (arith, less, is))))

use Rattle.std.proofs.Common.{◌≡◌, ap, ◌∙◌, arith}
use Rattle.rp_world.specs.Comes.{buffered_of}
use Rattle.rp_world.proofs.Starting.{first_helds, helds_more, helds_start}
use Rattle.rp_world.proofs.stage.first_nodes.Goals as goal

pub loop-number-preserved : goal.loop-number-preserved
loop-number-preserved c = helds_more c.args.nodes c.loop-number.number c.loop-number.list.items c.push_node.new.list.items c.loop-number.invariant c.in_ok-push_node.ensures

pub returns : goal.returns
returns c =
    let past = c.loop-number-test.false in
    let within = c.loop-number.auto.number-end in
    let end : c.loop-number.number ≡ c.args.nodes = omega (arith, past, within) in
    ap buffered_of c.from_vec.ensures ∙ helds_start c.args.nodes c.loop-number.list.items (c.loop-number.invariant ∙ ap (first_helds c.args.nodes) end)

use Rattle.std.proofs.Common.{rules, arith}
use Rattle.rp_serving.specs.Turns.{known_of}
use Rattle.rp_serving.proofs.Halfway.{half_left, half_heard}
use Rattle.rp_serving.proofs.turns.Turn.deliver_all.Goals as goal

pub deliver_from-requires-clause-left : goal.deliver_from-requires-clause-left
deliver_from-requires-clause-left g c =
    let test = c.loop-place-test.true in
    let nodes = c.args.self.now.nodes_are in
    half_left (known_of c.args.self.now) c.args.self.now.node c.loop-place.place c.unwrap-from.result c.args.mail.now c.loop-place.mail c.args.node.now.node c.loop-place.node.node c.take_from-letters.result.items
    c.requires.has.past.size c.requires.mail c.requires.whole c.loop-place.invariant (search rules) (omega (arith, test, nodes)) (search rules) c.take_from-letters.ensures.taken

pub returns-clause-heard : goal.returns-clause-heard
returns-clause-heard g c =
    let test = c.loop-place-test.false in
    let nodes = c.args.self.now.nodes_are in
    let size = c.requires.has.past.size in
    half_heard (known_of c.args.self.now) c.args.self.now.node c.loop-place.place c.args.mail.now c.loop-place.mail c.args.node.now.node c.loop-place.node.node c.loop-place.invariant (omega (arith, test, nodes, size))

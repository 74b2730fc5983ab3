use Rattle.std.proofs.Common.{◌≡◌, ◌+◌, ◌<◌, ◌++◌, ◌∷◌, [], ap, sym, subst, ◌∙◌, arith, IfSome}
use Rattle.rp_buffer.specs.Plays.{left}
use Rattle.rp_events.specs.Nodes.{first_node}
use Rattle.rp_contest.proofs.Handing.{front_more, front_size, hand_next, nodes_front}
use Rattle.rp_contest.proofs.openings.first_nodes.Goals as goal

pub loop-place-preserved : goal.loop-place-preserved
loop-place-preserved c =
    let nodes = c.args.nodes in
    let place = c.loop-place.place in
    let past = c.loop-place-test.true in
    let few = c.requires.few in
    let low : place < 5 = omega (arith, past, few) in
    let number : c.unwrap-node.result ≡ place + 1 = subst (λ o. IfSome o (λ n. n ≡ place + 1)) c.unwrap-node.ensures c.new.ensures.value in
    record {
      same = c.push_node.ensures.same ∙ c.loop-place.invariant.same;
      known = c.push_node.ensures.pass ∙ ap left c.loop-place.invariant.known ∙ hand_next place low;
      nodes =
          c.in_ok-push_node.ensures.pushed
          ∙ ap (λ w. w ++ first_node c.unwrap-node.result nodes ∷ []) c.loop-place.invariant.nodes
          ∙ ap (λ k. nodes_front nodes place ++ first_node k nodes ∷ []) number
          ∙ sym (front_more nodes place);
    }

pub returns-clause-size : goal.returns-clause-size
returns-clause-size c =
    let past = c.loop-place-test.false in
    let within = c.loop-place.auto.place-end in
    let end : c.loop-place.place ≡ c.args.nodes = omega (arith, past, within) in
    front_size c.args.nodes c.loop-place.list.items (c.loop-place.invariant.nodes ∙ ap (nodes_front c.args.nodes) end)

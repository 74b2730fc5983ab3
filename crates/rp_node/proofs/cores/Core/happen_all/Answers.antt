use Rattle.std.proofs.Common.{rules, refl, ◌+◌, ◌≤◌}
use Rattle.rp_node.specs.Cores.{node_of}
use Rattle.rp_node.proofs.Ticking.{all_node, left_is, may_turn_at, turn_more_at, turns_begin, within_eight}
use Rattle.rp_node.proofs.cores.Core.happen_all.Goals as goal

pub loop-plan-init : goal.loop-plan-init
loop-plan-init c =
    let start = record c.prepare_all.new.self { ticks = c.args.ticks } in
    left_is c.args.happens (node_of start) 0 start c.in_ok-plans.plans.items c.into_iter-plan-iterator.result.rest.items (search rules)
    (turns_begin c.args.happens c.prepare_all.new.self c.args.ticks c.in_ok-plans.plans.items c.in_ok-plans.ensures.seats (search rules) c.in_ok-plans.ensures.plans)

pub turn-requires-clause-ready : goal.turn-requires-clause-ready
turn-requires-clause-ready c =
    let start = node_of (record c.prepare_all.new.self { ticks = c.args.ticks }) in
    may_turn_at c.args.happens start c.loop-plan.number c.unwrap.result c.loop-plan.self c.in-Some.plan c.next.new.self.rest.items (search rules)
    (left_is c.args.happens start c.loop-plan.number c.loop-plan.self c.loop-plan.plan-iterator.rest.items _ c.in-Some.ensures.steps.0 c.loop-plan.invariant)

pub loop-plan-preserved : goal.loop-plan-preserved
loop-plan-preserved c =
    let start = node_of (record c.prepare_all.new.self { ticks = c.args.ticks }) in
    turn_more_at c.args.happens start c.loop-plan.number c.unwrap.result (c.loop-plan.number + 1) c.loop-plan.self c.turn.new.self c.in-Some.plan c.next.new.self.rest.items c.turn.result (search rules) refl
    (left_is c.args.happens start c.loop-plan.number c.loop-plan.self c.loop-plan.plan-iterator.rest.items _ c.in-Some.ensures.steps.0 c.loop-plan.invariant)
    c.turn.ensures.done c.turn.ensures.stays c.turn.ensures.journal c.turn.ensures.nodes

pub returns-clause-ok : goal.returns-clause-ok
returns-clause-ok c =
    all_node c.args.happens c.args.self.now c.prepare_all.new.self c.loop-plan.self c.write.new.self c.args.ticks c.loop-plan.number c.args.past c.loop-plan.plan-iterator.rest.items
    c.in_ok-plans.ensures.node c.loop-plan.invariant (search rules)
    c.write.ensures.journal c.write.ensures.sent c.write.ensures.outcomes c.write.ensures.requests

pub unwrap-requires : goal.unwrap-requires
unwrap-requires c =
    let start = node_of (record c.prepare_all.new.self { ticks = c.args.ticks }) in
    let within : c.loop-plan.number ≤ 7 = within_eight c.args.happens start c.loop-plan.number c.loop-plan.self c.in-Some.plan c.next.new.self.rest.items
    (left_is c.args.happens start c.loop-plan.number c.loop-plan.self c.loop-plan.plan-iterator.rest.items _ c.in-Some.ensures.steps.0 c.loop-plan.invariant) in
    search rules

pub turn-requires-clause-nodes : goal.turn-requires-clause-nodes
turn-requires-clause-nodes c = c.loop-plan.invariant.nodes

pub write-requires : goal.write-requires
write-requires c = c.loop-plan.invariant.journal

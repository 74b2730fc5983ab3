use Rattle.std.proofs.Common.{rules, ap, ◌∙◌, get_or, Some, None}
use Rattle.rp_events.specs.Nodes.{Node}
use Rattle.rp_node.specs.Plans.{answered}
use Rattle.rp_node.proofs.Ticking.{turn_stays}
use Rattle.rp_node.proofs.Turning.{nothing_turned, hands_fit, turn_done}
use Rattle.rp_node.proofs.cores.Core.turn.Goals as goal

pub returns-in_default-effects-clause-done : goal.returns-in_default-effects-clause-done
returns-in_default-effects-clause-done c =
    let seats = c.args.self.now.seats in
    nothing_turned c.args.self.now c.args.range c.from.result (get_or seats c.from.result c.index-self-from.result) c.commit-effects.new.self c.in-Some.plan c.take_right-right.new.self c.args.plan
    (search rules) (search rules) (search rules) (ap (λ d. get_or seats c.from.result d) c.index-self-from.is) c.commit-effects.ensures.status (search rules)

pub keep-requires-clause-sent : goal.keep-requires-clause-sent
keep-requires-clause-sent c =
    let seats = c.args.self.now.seats in
    (hands_fit seats c.args.range c.from.result (get_or seats c.from.result c.index-self-from.result) c.in-Some.plan c.take_right-right.new.self c.args.plan c.in-Some-effects.effects c.args.self.now.logs
    (search rules) (search rules) (search rules) (ap (λ d. get_or seats c.from.result d) c.index-self-from.is) c.requires.ready (search rules) c.take_right-right.ensures.does).0

pub keep-requires-clause-outcomes : goal.keep-requires-clause-outcomes
keep-requires-clause-outcomes c =
    let seats = c.args.self.now.seats in
    (hands_fit seats c.args.range c.from.result (get_or seats c.from.result c.index-self-from.result) c.in-Some.plan c.take_right-right.new.self c.args.plan c.in-Some-effects.effects c.args.self.now.logs
    (search rules) (search rules) (search rules) (ap (λ d. get_or seats c.from.result d) c.index-self-from.is) c.requires.ready (search rules) c.take_right-right.ensures.does).1

pub returns-in-Some-right-clause-done : goal.returns-in-Some-right-clause-done
returns-in-Some-right-clause-done c =
    let seats = c.args.self.now.seats in
    ap (λ (n : Node). answered n c.in-Some-effects.effects.answer) c.open.ensures.node
    ∙ turn_done c.args.self.now c.args.range c.from.result (get_or seats c.from.result c.index-self-from.result) c.commit-effects.new.self c.in-Some.plan c.take_right-right.new.self c.args.plan (Some c.in-Some-right.right) c.in-Some-effects.effects c.keep.new.self
    (search rules) (search rules) (search rules) (ap (λ d. get_or seats c.from.result d) c.index-self-from.is) c.commit-effects.ensures.status (search rules) c.take_right-right.ensures.does (search rules)
    (record { sent = c.keep.ensures.sent; outcomes = c.keep.ensures.outcomes; journal = c.keep.ensures.journal; requests = c.keep.ensures.requests })

pub returns-in_default-right-clause-done : goal.returns-in_default-right-clause-done
returns-in_default-right-clause-done c =
    let seats = c.args.self.now.seats in
    turn_done c.args.self.now c.args.range c.from.result (get_or seats c.from.result c.index-self-from.result) c.commit-effects.new.self c.in-Some.plan c.take_right-right.new.self c.args.plan None c.in-Some-effects.effects c.keep.new.self
    (search rules) (search rules) (search rules) (ap (λ d. get_or seats c.from.result d) c.index-self-from.is) c.commit-effects.ensures.status (search rules) c.take_right-right.ensures.does (search rules)
    (record { sent = c.keep.ensures.sent; outcomes = c.keep.ensures.outcomes; journal = c.keep.ensures.journal; requests = c.keep.ensures.requests })

pub returns-in_default-right-clause-stays : goal.returns-in_default-right-clause-stays
returns-in_default-right-clause-stays c =
    turn_stays c.args.self.now c.args.range c.from.result (get_or c.args.self.now.seats c.from.result c.index-self-from.result) c.commit-effects.new.self c.in-Some.plan c.take_right-right.new.self c.args.plan c.in-Some-effects.effects c.keep.new.self
    (search rules) (search rules) (search rules) c.take_right-right.ensures.does
    (record { sent = c.keep.ensures.sent_spare; outcomes = c.keep.ensures.outcomes_spare })

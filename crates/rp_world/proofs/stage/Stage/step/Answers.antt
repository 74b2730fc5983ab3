use Rattle.std.proofs.Common.{ap, ◌∙◌}
use Rattle.rp_world.specs.Weighing.{capped, load}
use Rattle.rp_world.proofs.Staging.{step_weighed, step_within}
use Rattle.rp_world.proofs.stage.Stage.step.Goals as goal

pub behind-requires : goal.behind-requires
behind-requires c =
    step_within c.self.inside.nodes c.happen.new.nodes c.args.self.now c.args.event.now c.in_ok-answer.answer c.node_of-node.result c.sent_by-before.result.now c.sent_by.result.now
    c.self.view_is c.requires c.in_ok-answer.ensures.ok c.node_of-node.ensures c.sent_by-before.ensures c.sent_by.ensures

pub invariant_of-self-2 : goal.invariant_of-self-2
invariant_of-self-2 c =
    step_weighed c.self.inside.nodes c.happen.new.nodes c.args.self.now c.args.event.now c.in_ok-answer.answer c.node_of-node.result c.sent_by-before.result.now c.sent_by.result.now
    c.self.inside.weight c.sent_weight-more.result c.saturating_add-self-inside.result
    c.self.view_is c.requires c.in_ok-answer.ensures.ok c.node_of-node.ensures c.sent_by-before.ensures c.sent_by.ensures (c.sent_weight-more.ensures ∙ ap (λ l. capped (load l)) c.behind.ensures) c.saturating_add-self-inside.ensures c.self.invariant

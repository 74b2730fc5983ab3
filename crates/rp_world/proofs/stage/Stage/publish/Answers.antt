use Rattle.std.proofs.Common.{ap, ◌∙◌, refl, length, subst, sym}
use Rattle.rp_bufcore.specs.Buffers.{after_publish, buffer_of, publish_answer}
use Rattle.rp_events.specs.Buffered.{Buffered}
use Rattle.rp_events.specs.declared.world_events.WorldEvent.TheVariants as events
use Rattle.rp_script.specs.Bounds.{IsNode}
use Rattle.rp_world.specs.Comes.{buffered_of}
use Rattle.rp_world.proofs.Staging.{ended_at, staged, weighed_stays}
use Rattle.rp_world.proofs.stage.Stage.publish.Goals as goal

pub invariant_of-self : goal.invariant_of-self
invariant_of-self c =
    weighed_stays c.self.inside.nodes c.publish.new.self c.self.inside.weight (events.Publish c.args.node c.args.range c.args.place c.args.item)
    (staged c.self.inside.nodes c.publish.new.self (buffered_of c.self.inside.nodes) c.args.node c.args.range (λ buffer. after_publish buffer c.args.place c.args.item) refl
    (subst (λ (b : Buffered). IsNode (length b.nodes) c.args.node) (sym c.self.view_is) c.requires) c.publish.ensures.after) refl c.self.invariant

pub returns-clause-answer : goal.returns-clause-answer
returns-clause-answer c =
    c.publish.ensures.answer ∙ ap (λ end. publish_answer (buffer_of end c.args.range) c.args.place) (ended_at c.self.inside.nodes c.args.self.now c.args.node c.self.view_is c.requires)

pub returns-clause-stage : goal.returns-clause-stage
returns-clause-stage c =
    staged c.self.inside.nodes c.publish.new.self c.args.self.now c.args.node c.args.range (λ buffer. after_publish buffer c.args.place c.args.item) c.self.view_is c.requires c.publish.ensures.after

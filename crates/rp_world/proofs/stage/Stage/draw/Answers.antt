use Rattle.std.proofs.Common.{ap, ◌∙◌, refl, length, subst, sym}
use Rattle.rp_bufcore.specs.Buffers.{after_draw, buffer_of, draw_answer}
use Rattle.rp_events.specs.Buffered.{Buffered}
use Rattle.rp_events.specs.declared.world_events.WorldEvent.TheVariants as events
use Rattle.rp_script.specs.Bounds.{IsNode}
use Rattle.rp_world.specs.Comes.{buffered_of}
use Rattle.rp_world.proofs.Staging.{ended_at, staged, weighed_stays}
use Rattle.rp_world.proofs.stage.Stage.draw.Goals as goal

pub invariant_of-self : goal.invariant_of-self
invariant_of-self c =
    weighed_stays c.self.inside.nodes c.draw.new.self c.self.inside.weight (events.Draw c.args.node c.args.range)
    (staged c.self.inside.nodes c.draw.new.self (buffered_of c.self.inside.nodes) c.args.node c.args.range after_draw refl
    (subst (λ (b : Buffered). IsNode (length b.nodes) c.args.node) (sym c.self.view_is) c.requires) c.draw.ensures.after) refl c.self.invariant

pub returns-clause-answer : goal.returns-clause-answer
returns-clause-answer c =
    c.draw.ensures.answer ∙ ap (λ end. draw_answer (buffer_of end c.args.range)) (ended_at c.self.inside.nodes c.args.self.now c.args.node c.self.view_is c.requires)

pub returns-clause-stage : goal.returns-clause-stage
returns-clause-stage c =
    staged c.self.inside.nodes c.draw.new.self c.args.self.now c.args.node c.args.range after_draw c.self.view_is c.requires c.draw.ensures.after

use Rattle.std.proofs.Common.{◌≡◌, ap, subst, sym, ◌∙◌}
use Rattle.rp_events.specs.Buffered.{Buffered, buffered_step}
use Rattle.rp_lines.specs.Players.{Player}
use Rattle.rp_lawful.specs.Comings.{node_in}
use Rattle.rp_world.specs.Comes.{answer_in}
use Rattle.rp_world.proofs.Staging.{admit_kept, unbooked}
use Rattle.rp_world.proofs.worlds.World.admit.Goals as goal

pub put-requires-clause-new_id : goal.put-requires-clause-new_id
put-requires-clause-new_id c =
    unbooked c.self.inside.stage c.args.self.now c.args.id c.args.booked.now c.self.inside.book c.make_room.new.self c.self.inside.events
    (ap (λ (p : Player). p.world) c.self.view_is) c.requires.comes c.in_ok-make_room.ensures.entries c.self.invariant

pub invariant_of-self-2 : goal.invariant_of-self-2
invariant_of-self-2 c =
    admit_kept c.self.inside.stage c.step.new.self c.args.self.now c.args.id c.args.booked.now c.in_ok-answer.answer c.self.inside.book c.make_room.new.self c.put.new.self c.tell.new.self c.first_outcome.result c.self.inside.events
    (ap (λ (p : Player). p.world) c.self.view_is) c.requires.reached c.requires.comes
    (c.in_ok-answer.ensures.stage ∙ ap (buffered_step c.self.inside.stage) c.admission.ensures)
    (c.in_ok-answer.ensures.answer ∙ ap (λ e. answer_in c.step.new.self.nodes (node_in e)) c.admission.ensures) c.first_outcome.ensures
    c.in_ok-make_room.ensures.entries c.in_ok-make_room.ensures.told c.put.ensures.entries c.put.ensures.told c.tell.ensures.entries c.tell.ensures.told c.self.invariant

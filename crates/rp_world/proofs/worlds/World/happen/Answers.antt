use Rattle.std.proofs.Common.{ap, ◌∙◌}
use Rattle.rp_book.specs.Books.{told_of}
use Rattle.rp_world.specs.Keeping.{told_after}
use Rattle.rp_lines.specs.Players.{Player}
use Rattle.rp_world.proofs.Staging.{ended_more, happen_kept}
use Rattle.rp_world.proofs.worlds.World.happen.Goals as goal

pub behind-requires : goal.behind-requires
behind-requires c =
    ended_more c.self.inside.stage c.step.new.self c.args.self.now c.args.event.now c.node_of-node.result c.ended-before.result.now c.ended.result.now
    (ap (λ (p : Player). p.world) c.self.view_is) c.requires.comes c.in_ok-answer.ensures.stage c.node_of-node.ensures c.ended-before.ensures c.ended.ensures

pub invariant_of-self-2 : goal.invariant_of-self-2
invariant_of-self-2 c =
    happen_kept c.self.inside.stage c.step.new.self c.args.self.now c.args.event.now c.node_of-node.result c.ended-before.result.now c.ended.result.now c.self.inside.book c.tell_all.new.book c.self.inside.events
    (ap (λ (p : Player). p.world) c.self.view_is) c.requires.reached c.requires.comes c.requires.no_admission c.in_ok-answer.ensures.stage c.node_of-node.ensures c.ended-before.ensures c.ended.ensures
    c.tell_all.ensures.entries (λ id. c.tell_all.ensures.told id ∙ ap (λ l. told_after l id (told_of id c.self.inside.book.told)) c.behind.ensures) c.self.invariant

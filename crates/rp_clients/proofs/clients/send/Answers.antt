use Rattle.std.proofs.Common.{◌∙◌, sym}
use Rattle.rp_clients.proofs.Commands.{unsent_over}
use Rattle.rp_clients.proofs.clients.send.Goals as goal

pub returns-then-is_over-clause-so_far : goal.returns-then-is_over-clause-so_far
returns-then-is_over-clause-so_far g c =
    c.begin.ensures.so_far
    ∙ sym (unsent_over c.args.command.now.seq c.args.course.now.hints (g.D.Desk.stands c.args.desk.now) c.args.is_over c.if-is_over.true c.requires.place)

use Rattle.std.proofs.Common.{refl}
use Rattle.rp_clients.proofs.Commands.{over_first, first_ready}
use Rattle.rp_clients.proofs.clients.try_within.Goals as goal

pub returns-then-branch-clause-after : goal.returns-then-branch-clause-after
returns-then-branch-clause-after g c =
    over_first c.args.command.now.seq c.args.course.now c.args.course.now (g.D.Desk.stands c.args.desk.now) (g.D.Desk.stands c.wait_for_units.new.desk)
    c.requires.begins c.requires.so_far (rw c.if-branch.true at c.in_ok-wait_for_units.ensures)

pub try_all-left-requires-clause-ready : goal.try_all-left-requires-clause-ready
try_all-left-requires-clause-ready g c =
    first_ready c.args.command.now.seq c.units_of-units.result c.args.course.now c.args.course.now (g.D.Desk.stands c.args.desk.now) (g.D.Desk.stands c.wait_for_units.new.desk)
    c.requires.begins refl c.requires.rounds c.requires.so_far (rw c.if-branch.false at c.in_ok-wait_for_units.ensures)

use Rattle.std.proofs.Common.{◌≤◌}
use Rattle.rp_clients.specs.Tries.{most_tries}
use Rattle.rp_clients.specs.Courses.{Ready, SameDesk, KeepsEarlier}
use Rattle.rp_clients.proofs.tries.try_all.Given as goal

abbrev pub invariant-loop-attempt : goal.invariant-loop-attempt
invariant-loop-attempt g l = record {
  most : l.attempt ≤ most_tries;
  ready : Ready l.command.seq l.attempt l.course (g.D.Desk.stands l.desk);
  earlier : KeepsEarlier l.command.seq (g.D.Desk.stands l.fn.desk) (g.D.Desk.stands l.desk);
  same : SameDesk (g.D.Desk.stands l.fn.desk) (g.D.Desk.stands l.desk);
}

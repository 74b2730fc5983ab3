use Rattle.rp_clients.specs.Waits.{SameButTold}
use Rattle.rp_clients.proofs.waits.wait_for_round.Given as goal

abbrev pub invariant-loop : goal.invariant-loop
invariant-loop g l = SameButTold (g.D.Desk.stands l.fn.desk) (g.D.Desk.stands l.desk)

use Rattle.std.proofs.Common.{◌≡◌}
use Rattle.rp_clients.proofs.waits.wait_for_end.Given as goal

abbrev pub invariant-loop : goal.invariant-loop
invariant-loop g l = g.D.Desk.stands l.desk ≡ g.D.Desk.stands l.fn.desk

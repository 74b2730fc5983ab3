use Rattle.std.proofs.Common.{◌*◌, ◌-◌}
use Rattle.rp_racers.proofs.clients.+fn-run_clients-join+arg3+run_clients.Given as goal

abbrev pub decreases-join+arg3 : goal.decreases-join+arg3
decreases-join+arg3 g l = 2 * (65537 - l.from) - 1

abbrev pub decreases-run_clients : goal.decreases-run_clients
decreases-run_clients g l = 2 * (65537 - l.from)

use Rattle.std.proofs.Common.{◌≡◌}
use Rattle.rp_rounds.proofs.rounds.serve.Given as goal

abbrev pub invariant-loop : goal.invariant-loop
invariant-loop g l = g.B.Bench.stands l.bench ≡ g.B.Bench.stands l.fn.bench

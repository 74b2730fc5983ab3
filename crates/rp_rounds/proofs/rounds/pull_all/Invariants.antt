use Rattle.std.proofs.Common.{◌≡◌}
use Rattle.rp_rounds.specs.Rounds.{at_due, pulls_from}
use Rattle.rp_rounds.proofs.rounds.pull_all.Given as goal

abbrev pub invariant-loop-from : goal.invariant-loop-from
invariant-loop-from g l =
    g.B.Bench.stands l.bench ≡ at_due (pulls_from l.nodes l.to l.from) (g.B.Bench.stands l.fn.bench)

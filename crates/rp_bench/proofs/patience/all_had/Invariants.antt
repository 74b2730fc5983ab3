use Rattle.rp_bench.specs.Patience.{AllHad}
use Rattle.rp_bench.proofs.patience.all_had.Given as goal

-- each of the nodes before this place
abbrev pub invariant-loop-place : goal.invariant-loop-place
invariant-loop-place l = AllHad l.fn.stations l.place l.fn.rounds

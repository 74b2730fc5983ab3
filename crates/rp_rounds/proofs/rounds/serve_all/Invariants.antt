use Rattle.std.proofs.Common.{◌≡◌, ◌≤◌, ◌+◌, ◌-◌}
use Rattle.rp_rounds.specs.Rounds.{at_due, round_from}
use Rattle.rp_rounds.proofs.rounds.serve_all.Given as goal

abbrev pub invariant-loop-node : goal.invariant-loop-node
invariant-loop-node g l = (1 ≤ l.node) × (l.node ≤ 13) × (g.B.Bench.stands l.bench
    ≡ at_due (round_from l.worker l.nodes l.node) (g.B.Bench.stands l.fn.bench))

abbrev pub decreases-loop-node : goal.decreases-loop-node
decreases-loop-node g l = l.nodes + 1 - l.node

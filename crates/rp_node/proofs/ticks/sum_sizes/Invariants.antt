use Rattle.std.proofs.Common.{◌≤◌, sum_by, take}
use Rattle.rp_node.specs.Ticks.{seat_ends, seat_sends}
use Rattle.rp_node.proofs.ticks.sum_sizes.Given as goal

-- the sums of the plans so far
abbrev pub invariant-loop-plan : goal.invariant-loop-plan
invariant-loop-plan l = record {
  sends : sum_by seat_sends (take l.plan-index l.plans) ≤ l.sends;
  ends : sum_by seat_ends (take l.plan-index l.plans) ≤ l.ends;
}

use Rattle.std.proofs.Common.{map, take}
use Rattle.rp_racelines.specs.Latest.{AreLatest}
use Rattle.rp_racelines.proofs.attempts.latest_of.Given as goal

-- the latest attempts by the nodes so far
abbrev pub invariant-loop-node : goal.invariant-loop-node
invariant-loop-node g l = AreLatest (map (λ h. h.node) (take l.node-index l.nodes)) l.attempts.entries

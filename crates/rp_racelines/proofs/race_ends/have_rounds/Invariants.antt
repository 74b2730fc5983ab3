use Rattle.std.proofs.Common.{◌≡◌, map, take, true}
use Rattle.std.specs.List.{list_all}
use Rattle.rp_racelines.specs.Judging.{has_rounds}
use Rattle.rp_racelines.proofs.race_ends.have_rounds.Given as goal

-- all nodes so far have them
abbrev pub invariant-loop-node : goal.invariant-loop-node
invariant-loop-node g l = list_all (has_rounds l.rounds) (map (λ h. h.node) (take l.node-index l.nodes)) ≡ true

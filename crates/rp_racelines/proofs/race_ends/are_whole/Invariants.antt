use Rattle.std.proofs.Common.{◌≡◌, map, take, true}
use Rattle.std.specs.List.{list_all}
use Rattle.rp_racelines.specs.Judging.{ends_whole}
use Rattle.rp_racelines.proofs.race_ends.are_whole.Given as goal

-- no round of a node so far was broken off
abbrev pub invariant-loop-node : goal.invariant-loop-node
invariant-loop-node g l = list_all (λ n. ends_whole n.journal) (map (λ h. h.node) (take l.node-index l.nodes)) ≡ true

use Rattle.std.proofs.Common.{◌≡◌, ◌≤◌, ◌*◌, ◌^◌, length, take}
use Rattle.std.specs.Prelude.{sum_by}
use Rattle.rp_chronicle.specs.Worlds.{world_of}
use Rattle.rp_chronicle.proofs.views.messages.Given as goal

-- the messages of the nodes so far, of each less than 2^61
abbrev pub invariant-loop-node : goal.invariant-loop-node
invariant-loop-node g l = record {
  counted : l.count ≡ sum_by (λ n. length n.sent) (world_of (take l.node-index l.nodes));
  few : l.count ≤ l.node-index * 2 ^ 61;
}

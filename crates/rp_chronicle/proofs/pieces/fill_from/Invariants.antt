use Rattle.std.proofs.Common.{◌≡◌, length, take}
use Rattle.rp_chronicle.specs.Filling.{FillsAll}
use Rattle.rp_chronicle.specs.Worlds.{pieces_of, world_of}
use Rattle.rp_chronicle.proofs.pieces.fill_from.Given as goal

-- the pieces of the nodes so far are filled in
abbrev pub invariant-loop-node : goal.invariant-loop-node
invariant-loop-node g l = record {
  long : length l.records ≡ length l.initial.records;
  filled : FillsAll l.base (pieces_of (world_of (take l.node-index l.nodes)) l.range) l.initial.records l.records;
}

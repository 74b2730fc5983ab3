use Rattle.std.proofs.Common.{◌≡◌, length, take}
use Rattle.rp_chronicle.specs.Filling.{FillsAll}
use Rattle.rp_chronicle.proofs.pieces.fill_all.Given as goal

-- the pieces so far are filled in
abbrev pub invariant-loop-piece : goal.invariant-loop-piece
invariant-loop-piece l = record {
  long : length l.records ≡ length l.initial.records;
  filled : FillsAll l.base (take l.piece-index l.kept.history.earlier) l.initial.records l.records;
}

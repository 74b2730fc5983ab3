use Rattle.std.proofs.Common.{◌≡◌, ◌+◌, ◌++◌, take}
use Rattle.rp_serving.specs.Letters.{letters_behind}
use Rattle.rp_serving.proofs.lanes.Lane.copy.Given as goal

-- so many more were looked at
abbrev pub invariant-loop-parcel : goal.invariant-loop-parcel
invariant-loop-parcel g l = record {
  copied : l.self.copied ≡ l.fn.self.copied + l.parcel-index;
  letters : l.self.letters.list ≡ l.fn.self.letters.list
      ++ letters_behind l.rules l.from l.to (l.fn.self.copied + 1) (take l.parcel-index l.more);
}

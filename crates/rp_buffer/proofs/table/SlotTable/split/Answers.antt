use Rattle.std.proofs.Common.{rules, ◌≡◌, ℕ, ◌+◌, ◌*◌, ◌<◌, ◌≤◌, List, [], ◌∷◌, ◌++◌, arith}
use Rattle.rp_buffer.proofs.Ends.{splits}
use Rattle.rp_buffer.proofs.table.SlotTable.split.Goals as goal

pub split_seat-seat-requires : goal.split_seat-seat-requires
split_seat-seat-requires c = let words = c.args.self.now.counted.0 in
    (c.requires.of, omega (arith, words), splits _ _ _ c.requires.parts)

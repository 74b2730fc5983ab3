use Rattle.std.proofs.Common.{rules, ◌≡◌, ℕ, ◌+◌, ◌*◌, ◌<◌, ◌≤◌, List, [], ◌∷◌, ◌++◌, arith}
use Rattle.rp_buffer.proofs.Ends.{joins}
use Rattle.rp_buffer.proofs.table.SlotTable.join.Goals as goal

pub join_seat-requires : goal.join_seat-requires
join_seat-requires c = let words = c.args.self.now.counted.0 in
    (c.requires.of, c.requires.other, c.args.other.holds_no_slot, omega (arith, words), joins _ _ _ _ _ c.args.pass.now.has_part)

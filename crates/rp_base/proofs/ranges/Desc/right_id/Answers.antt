use Rattle.std.proofs.Common.{◌≡◌, ◌*◌, ◌%◌, ◌^◌, ◌<◌, ◌≤◌, arith}
use Rattle.rp_base.proofs.Powers.{one_shifted}
use Rattle.rp_base.proofs.ranges.Desc.right_id.Goals as goal

pub unwrap-requires : goal.unwrap-requires
unwrap-requires c =
    let power : (1 * 2 ^ c.args.self.level % 256 ≡ 2 ^ c.args.self.level) × (2 ^ c.args.self.level ≤ 4) = one_shifted c.args.self.level c.requires in
    let fits : c.args.self.id < 2 ^ c.args.self.level = c.args.self.id_of_level in
    c.new.ensures.valid.1 (omega arith)

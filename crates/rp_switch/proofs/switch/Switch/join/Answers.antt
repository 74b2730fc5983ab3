use Rattle.std.proofs.Common.{arith, ap, ◌∙◌}
use Rattle.rp_switch.specs.Calm.{slots_at}
use Rattle.rp_switch.proofs.Parting.{joins}
use Rattle.rp_switch.proofs.switch.Switch.join.Goals as goal

pub join_seat-requires : goal.join_seat-requires
join_seat-requires g c =
    let words = c.args.self.now.counted.0 in
    let some = c.args.self.now.some in
    let nodes = c.args.self.now.nodes_are in (
      c.requires.of.0,
      c.requires.other.0,
      c.args.other.slots ∙ ap slots_at c.requires.idle,
      omega (arith, words, some, nodes),
      joins _ _ _ _ _ c.args.seat.now.has_part c.args.other.has_part c.requires.idle,
    )

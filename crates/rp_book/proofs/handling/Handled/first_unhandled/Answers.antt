use Rattle.std.proofs.Common.{◌≤◌, ◌<◌, ◌+◌, length, rules, arith}
use Rattle.rp_book.proofs.Fronts.{front_length}
use Rattle.rp_book.proofs.handling.Handled.first_unhandled.Goals as goal

pub overflow_add-result : goal.overflow_add-result
overflow_add-result c =
    let few : c.self.inside.front ≤ length c.self.inside.flags.items = front_length c.self.inside.flags.items c.self.inside.front c.self.invariant in
    let small : length c.self.inside.flags.items + 1 < 18446744073709551616 = search rules in
    omega (arith, few, small)

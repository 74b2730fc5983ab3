use Rattle.std.proofs.Common.{◌<◌, ◌+◌, rules, arith}
use Rattle.rp_book.proofs.Fronts.{sum_fits}
use Rattle.rp_book.proofs.handling.advanced.Goals as goal

pub overflow_add-result : goal.overflow_add-result
overflow_add-result c =
    let fits : c.args.front + c.leading-more.result < 18446744073709551616 = sum_fits c.args.flags.now c.args.front c.leading-more.result _ c.requires c.leading-more.ensures (search rules) in
    omega (arith, fits)

use Rattle.std.proofs.Common.{rules, get_or, ap}
use Rattle.rp_node.proofs.Silence.{counted_at}
use Rattle.rp_node.proofs.cores.Core.count_at.Goals as goal

pub returns-clause-turn : goal.returns-clause-turn
returns-clause-turn c =
    let seats = c.args.self.now.seats in
    counted_at c.args.self.now c.args.range (get_or seats c.args.range c.index-self-range.result) c.count_tick.new.self (search rules) (ap (λ d. get_or seats c.args.range d) c.index-self-range.is) c.count_tick.ensures

use Rattle.std.proofs.Common.{rules, ap, get_or}
use Rattle.rp_node.proofs.Seating.{down_node}
use Rattle.rp_node.proofs.cores.Core.take_down.Goals as goal

pub returns-clause-node : goal.returns-clause-node
returns-clause-node c =
    let seats = c.args.self.now.seats in
    down_node c.args.self.now c.args.range c.from.result (get_or seats c.from.result c.index-self-from.result) c.take_down.new.self (search rules) (search rules) (ap (λ d. get_or seats c.from.result d) c.index-self-from.is) c.take_down.ensures

use Rattle.std.proofs.Common.{rules}
use Rattle.rp_node.proofs.Seating.{opened_node}
use Rattle.rp_node.proofs.cores.Core.open.Goals as goal

pub returns-then-is_absent-clause-node : goal.returns-then-is_absent-clause-node
returns-then-is_absent-clause-node c =
    opened_node c.args.self.now c.args.right c.from-place.result c.index-self-place.result c.start-replica.result (search rules) (search rules) c.index-self-place.is (search rules) (search rules)

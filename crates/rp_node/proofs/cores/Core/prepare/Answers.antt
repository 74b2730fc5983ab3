use Rattle.std.proofs.Common.{sym, ap, ◌∙◌}
use Rattle.rp_node.specs.Cores.{status_of}
use Rattle.rp_node.proofs.Seating.{kept_node, prepared_node}
use Rattle.rp_node.proofs.cores.Core.prepare.Goals as goal

pub returns-in_err-plan-clause-node : goal.returns-in_err-plan-clause-node
returns-in_err-plan-clause-node c =
    kept_node c.args.self.now c.from.result c.index-self-from.result c.plan.new.self c.index-self-from.is (c.plan.ensures.status ∙ ap status_of (sym c.index-self-from.is))

pub returns-in_err-make_room-clause-node : goal.returns-in_err-make_room-clause-node
returns-in_err-make_room-clause-node c =
    prepared_node c.args.self.now c.from.result c.index-self-from.result c.plan.new.self c.make_room.new.self c.index-self-from.is (c.plan.ensures.status ∙ ap status_of (sym c.index-self-from.is)) c.make_room.ensures.lists

pub returns-clause-node : goal.returns-clause-node
returns-clause-node c =
    prepared_node c.args.self.now c.from.result c.index-self-from.result c.plan.new.self c.make_room.new.self c.index-self-from.is (c.plan.ensures.status ∙ ap status_of (sym c.index-self-from.is)) c.make_room.ensures.lists

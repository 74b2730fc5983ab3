use Rattle.std.proofs.Common.{rules, refl}
use Rattle.rp_node.proofs.Coming.{absent_node}
use Rattle.rp_node.proofs.cores.Core.receive_absent.Goals as goal

pub returns-clause-node : goal.returns-clause-node
returns-clause-node c =
    absent_node c.args.self.now c.args.range c.from.result c.args.from c.args.message c.seat_by_message-seat.result (record c.args.self.now.logs { sent = c.send.new.sent }) c.absent_answer-answer.result
    (search rules) c.seat_by_message-seat.ensures c.absent_answer-answer.ensures c.send.ensures refl refl refl

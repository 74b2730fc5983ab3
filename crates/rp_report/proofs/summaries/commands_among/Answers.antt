use Rattle.std.proofs.Common.{◌∙◌, arith}
use Rattle.rp_report.proofs.CommandCounts.{one_more, counted_all}
use Rattle.rp_report.proofs.summaries.commands_among.Goals as goal

pub loop-reply-preserved : goal.loop-reply-preserved
loop-reply-preserved c =
    one_more c.args.replies.now c.loop-reply.reply-index c.reply-item.result c.reply-item.result c.loop-reply.commands c.insert.new.self
    (omega arith) c.reply-item.is c.loop-reply.invariant c.in_ok-insert.ensures.updates c.insert.ensures.ordered

pub returns : goal.returns
returns c = c.len.ensures.len ∙ counted_all c.args.replies.now c.loop-reply.reply-index c.loop-reply.commands (omega arith) c.loop-reply.invariant

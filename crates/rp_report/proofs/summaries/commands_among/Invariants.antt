use Rattle.std.proofs.Common.{take}
use Rattle.rp_report.proofs.CommandCounts.{HasCommands}
use Rattle.rp_report.proofs.summaries.commands_among.Given as goal

-- the set has the commands of the replies so far
abbrev pub invariant-loop-reply : goal.invariant-loop-reply
invariant-loop-reply l = HasCommands (take l.reply-index l.replies) l.commands

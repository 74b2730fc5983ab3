use Rattle.std.proofs.Common.{◌≡◌, ◌++◌, drop}
use Rattle.std.specs.Prelude.{flat_map}
use Rattle.rp_report.specs.Report.{answer_line}
use Rattle.rp_report.proofs.texts.push_replies.Given as goal

-- what is written, with the lines that are left, is all of it
abbrev pub invariant-loop-reply : goal.invariant-loop-reply
invariant-loop-reply l = l.out ++ flat_map answer_line (drop l.reply-index l.replies) ≡ l.fn.out ++ flat_map answer_line l.replies

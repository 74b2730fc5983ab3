use Rattle.std.proofs.Common.{◌≡◌, ◌++◌, map}
use Rattle.rp_raftstep.specs.RaftState.{nodes_to}
use Rattle.rp_events.specs.Worlds.{World}
use Rattle.rp_racelines.specs.Latest.{AreLatest}
use Rattle.rp_racelines.specs.Replies.{reply_line}
use Rattle.rp_racelines.proofs.reply_lines.push_client.Given as goal

-- the lines of the commands so far
abbrev pub invariant-loop-before : goal.invariant-loop-before
invariant-loop-before l = (w : World) → AreLatest w l.attempts.entries
    → l.lines.items ≡ l.fn.lines.items ++ map (reply_line w l.client) (nodes_to l.before)

use Rattle.std.proofs.Common.{◌≡◌, ◌+◌, ◌++◌, drop, map}
use Rattle.rp_events.specs.Worlds.{World}
use Rattle.rp_race.specs.Ends.{commands_from}
use Rattle.rp_racelines.specs.Latest.{AreLatest}
use Rattle.rp_racelines.specs.Replies.{race_replies, reply_line}
use Rattle.rp_racelines.proofs.reply_lines.lines_of.Given as goal

-- the lines so far and those of the clients that are left are all
abbrev pub invariant-loop-sent : goal.invariant-loop-sent
invariant-loop-sent l = record {
  client : l.client ≡ l.sent-index;
  lines : (w : World) → AreLatest w l.attempts.entries
      → l.lines.items ++ map (λ c. reply_line w c.client c.seq) (commands_from (l.client + 1) (drop l.sent-index l.rules.requests))
      ≡ race_replies l.rules w;
}

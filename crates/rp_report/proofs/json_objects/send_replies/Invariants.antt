use Rattle.std.proofs.Common.{drop}
use Rattle.rp_report.specs.Json.{items_by, reply_value}
use Rattle.rp_report.proofs.JsonLists.{EndsWell}
use Rattle.rp_report.proofs.json_objects.send_replies.Given as goal

-- what ends the items that are left ends all of them
abbrev pub invariant-loop-reply : goal.invariant-loop-reply
invariant-loop-reply g l =
    EndsWell (items_by reply_value l.replies) (g.S.Serializer.written l.initial.out) (items_by reply_value (drop l.reply-index l.replies)) (g.S.Serializer.written l.out)

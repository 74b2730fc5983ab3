use Rattle.std.proofs.Common.{length, refl}
use Rattle.rp_report.specs.Json.{reply_value}
use Rattle.rp_report.proofs.JsonLists.{closes}
use Rattle.rp_report.proofs.json_objects.send_replies.Goals as goal

pub returns : goal.returns
returns g c =
    closes reply_value c.args.replies.now c.loop-reply.reply-index c.end_seq.result (g.S.Serializer.written c.args.out.now) (g.S.Serializer.written c.begin_seq.new.self)
    (g.S.Serializer.written c.loop-reply.out) (g.S.Serializer.written c.end_seq.new.self) (length c.args.replies.now)
    c.in_ok-begin_seq.ensures refl c.loop-reply-test.false c.loop-reply.invariant c.end_seq.ensures

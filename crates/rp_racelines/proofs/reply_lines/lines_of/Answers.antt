use Rattle.std.proofs.Common.{◌∙◌, ◌<◌, ap, arith, get_or, length, subst}
use Rattle.rp_racelines.proofs.Telling.{clients_more}
use Rattle.rp_racelines.proofs.reply_lines.lines_of.Goals as goal

pub loop-sent-preserved : goal.loop-sent-preserved
loop-sent-preserved c = record {
  client = let is = c.loop-sent.invariant.client in omega (arith, is);
  lines = λ w h.
      let i = c.loop-sent.sent-index in
      let same = c.as_slice-sent-items.ensures in
      clients_more w c.loop-sent.client i c.len.result c.args.rules.now.requests c.sent-item.result c.loop-sent.lines.items c.push_client.new.lines.items _
      (subst (λ l. i < length l) same c.loop-sent-test.true)
      (c.sent-item.is ∙ ap (λ l. get_or l i c.sent-item.result) same)
      c.len.ensures (c.in_ok-push_client.ensures w h) (c.loop-sent.invariant.lines w h);
}

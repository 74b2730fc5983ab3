use Rattle.std.proofs.Common.{◌∙◌, ap, arith, length, take}
use Rattle.rp_racelines.specs.Rules.{clients_in}
use Rattle.rp_racelines.proofs.Sending.{is_within, none_sent, sent_length, takes_line}
use Rattle.rp_racelines.proofs.lines.take_lines.Goals as goal

pub loop-line-init : goal.loop-line-init
loop-line-init c = c.requires ∙ none_sent (clients_in c.args.lines.now)

pub take_line-requires : goal.take_line-requires
take_line-requires c =
    let lines = c.args.lines.now in
    let i = c.loop-line.line-index in
    let most = is_within lines i c.line-item.result c.loop-line-test.true c.line-item.is in
    let len = sent_length (clients_in lines) (take i lines) in
    let is = ap (λ xs. length xs) c.loop-line.invariant in
    omega (arith, most, len, is)

pub loop-line-preserved : goal.loop-line-preserved
loop-line-preserved c =
    let lines = c.args.lines.now in
    let i = c.loop-line.line-index in
    takes_line lines i c.line-item.result c.loop-line.sent _ c.loop-line-test.true c.line-item.is
    (is_within lines i c.line-item.result c.loop-line-test.true c.line-item.is) c.loop-line.invariant c.in_ok-take_line.ensures

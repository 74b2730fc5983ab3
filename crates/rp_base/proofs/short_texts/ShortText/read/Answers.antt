use Rattle.std.proofs.Common.{arith, ◌≡◌, sym}
use Rattle.rp_base.specs.ShortTexts.{good_len}
use Rattle.rp_base.proofs.TextLaws.{text_of_stops, text_of_kept, IsKept-padded}
use Rattle.rp_base.proofs.short_texts.ShortText.read.Goals as goal

pub returns-then-good-text : goal.returns-then-good-text
returns-then-good-text c =
    let e : c.min-good.result ≡ good_len c.args.text.now = cc in
    rw e (sym (text_of_stops c.args.text.now (omega arith)))

pub invariant_of-result : goal.invariant_of-result
invariant_of-result c = IsKept-padded c.args.text.now c.in_front.result c.min-good.result c.in_front.ensures (cc) c.if-good-text.false

pub returns : goal.returns
returns c = sym (text_of_kept c.args.text.now c.in_front.result c.min-good.result c.in_front.ensures (cc) c.if-good-text.false)

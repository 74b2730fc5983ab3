use Rattle.rp_base.proofs.TextLaws.{copied_in_front}
use Rattle.rp_base.proofs.short_texts.in_front.Goals as goal

pub returns : goal.returns
returns c = copied_in_front c.args.text.now c.copy_from_slice.new.self c.copy_from_slice.ensures.after

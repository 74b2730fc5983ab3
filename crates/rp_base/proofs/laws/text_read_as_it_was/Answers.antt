use Rattle.rp_base.proofs.TextLaws.{text_as_read}
use Rattle.rp_base.proofs.laws.text_read_as_it_was.Goals as goal

pub returns : goal.returns
returns c = text_as_read

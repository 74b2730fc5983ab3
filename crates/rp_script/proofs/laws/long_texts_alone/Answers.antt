use Rattle.rp_script.proofs.LongTexts.{long_texts_alone}
use Rattle.rp_script.proofs.laws.long_texts_alone.Goals as goal

pub returns : goal.returns
returns c = long_texts_alone

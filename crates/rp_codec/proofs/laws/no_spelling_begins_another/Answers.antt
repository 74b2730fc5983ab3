use Rattle.rp_codec.proofs.SpellingLaws.{no_front}
use Rattle.rp_codec.proofs.laws.no_spelling_begins_another.Goals as goal

pub returns : goal.returns
returns c = no_front

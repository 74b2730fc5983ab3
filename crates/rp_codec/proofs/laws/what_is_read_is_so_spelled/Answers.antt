use Rattle.rp_codec.proofs.SpellingLaws.{spelled_as_read}
use Rattle.rp_codec.proofs.laws.what_is_read_is_so_spelled.Goals as goal

pub returns : goal.returns
returns c = spelled_as_read

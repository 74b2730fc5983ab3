use Rattle.rp_base.proofs.KeyLaws.{no_bad_place}
use Rattle.rp_base.proofs.laws.key_read_where_no_place_is_bad.Goals as goal

pub returns : goal.returns
returns c = no_bad_place

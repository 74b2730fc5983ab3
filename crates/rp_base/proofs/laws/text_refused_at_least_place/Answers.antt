use Rattle.rp_base.proofs.TextLaws.{least_bad_place}
use Rattle.rp_base.proofs.laws.text_refused_at_least_place.Goals as goal

pub returns : goal.returns
returns c = least_bad_place

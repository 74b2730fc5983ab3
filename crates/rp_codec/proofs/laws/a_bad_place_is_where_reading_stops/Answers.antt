use Rattle.rp_codec.proofs.Stopping.{bad_place}
use Rattle.rp_codec.proofs.laws.a_bad_place_is_where_reading_stops.Goals as goal

pub returns : goal.returns
returns c = bad_place

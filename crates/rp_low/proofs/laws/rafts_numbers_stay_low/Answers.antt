use Rattle.rp_low.proofs.laws.rafts_numbers_stay_low.Goals as goal
use Rattle.rp_low.proofs.Weighed.{weighed_first, weighed_scene}
use Rattle.rp_low.proofs.Rooms.{room_low}

pub returns : goal.returns
returns c = record { first = weighed_first; scene = weighed_scene; room = room_low }

use Rattle.rp_bufcore.proofs.Running.{stays_sound}
use Rattle.rp_bufcore.proofs.laws.places_that_are_not_drawn_are_free.Goals as goal

pub returns : goal.returns
returns c = stays_sound

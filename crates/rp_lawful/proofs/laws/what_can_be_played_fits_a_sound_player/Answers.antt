use Rattle.rp_lawful.proofs.laws.what_can_be_played_fits_a_sound_player.Goals as goal
use Rattle.rp_lawful.proofs.Playing.{can_sound, can_room, can_size, can_fits}

pub returns : goal.returns
returns c = record { sound = can_sound; room = can_room; size = can_size; fits = can_fits }

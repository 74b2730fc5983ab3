use Rattle.rp_lawful.proofs.laws.a_first_player_is_sound.Goals as goal
use Rattle.rp_lawful.proofs.Playing.{first_sound_player, first_size}

pub returns : goal.returns
returns c = record { sound = first_sound_player; size = first_size }

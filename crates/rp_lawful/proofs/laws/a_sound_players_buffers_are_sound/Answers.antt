use Rattle.rp_lawful.proofs.laws.a_sound_players_buffers_are_sound.Goals as goal
use Rattle.rp_lawful.proofs.Buffers.{run_sound, given_few}

pub returns : goal.returns
returns c = record { sound = run_sound; few = given_few }

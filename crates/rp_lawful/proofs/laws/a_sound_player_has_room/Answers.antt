use Rattle.rp_lawful.proofs.laws.a_sound_player_has_room.Goals as goal
use Rattle.rp_lawful.proofs.Worlds.{not_full}
use Rattle.rp_lawful.proofs.Nexts.{room}

pub returns : goal.returns
returns c = λ k p s node n has. not_full p.world.nodes node n has (room k p s)

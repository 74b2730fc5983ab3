use Rattle.rp_race.proofs.laws.a_clients_tries_come_one_behind_another.Goals as goal
use Rattle.rp_race.proofs.Behind.{came_behind}

pub returns : goal.returns
returns c = came_behind

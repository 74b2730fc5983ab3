use Rattle.rp_seats.proofs.laws.a_scene_is_the_run_of_its_raft_events.Goals as goal
use Rattle.rp_seats.proofs.Worlds.{scene_seen}

pub returns : goal.returns
returns c range start below w shaped x lawful starts = scene_seen range start below w shaped x lawful starts

use Rattle.rp_race.proofs.laws.a_round_goes_on.Goals as goal
use Rattle.rp_race.proofs.Going.{so_far_first, so_far_further, so_far_reached, stage_further, heard_by}

pub returns : goal.returns
returns c = record { first = so_far_first; further = so_far_further; reached = so_far_reached; stage = stage_further; heard = heard_by }

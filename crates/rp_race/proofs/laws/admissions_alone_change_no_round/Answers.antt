use Rattle.rp_race.proofs.laws.admissions_alone_change_no_round.Goals as goal
use Rattle.rp_race.proofs.Going.{only_itself, only_further, only_all}

pub returns : goal.returns
returns c = record { itself = only_itself; further = only_further; all = only_all }

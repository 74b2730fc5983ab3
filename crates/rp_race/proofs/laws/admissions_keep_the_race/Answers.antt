use Rattle.rp_race.proofs.laws.admissions_keep_the_race.Goals as goal
use Rattle.rp_race.proofs.Keeping.{admits}

pub returns : goal.returns
returns c = λ rules broken nodes w reached race tries each node n has xs may. admits rules broken nodes node xs w reached race tries each n has may

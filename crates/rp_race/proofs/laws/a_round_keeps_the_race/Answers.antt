use Rattle.rp_race.proofs.laws.a_round_keeps_the_race.Goals as goal
use Rattle.rp_race.proofs.Keeping.{broken_off, whole}

pub returns : goal.returns
returns c = record { broken_off = broken_off; whole = whole }

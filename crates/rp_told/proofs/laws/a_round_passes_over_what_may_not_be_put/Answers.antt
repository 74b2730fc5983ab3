use Rattle.rp_told.proofs.laws.a_round_passes_over_what_may_not_be_put.Goals as goal
use Rattle.rp_told.proofs.Passing.{all_over}

pub returns : goal.returns
returns c = all_over

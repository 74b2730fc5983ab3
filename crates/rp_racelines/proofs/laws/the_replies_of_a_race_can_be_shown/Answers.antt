use Rattle.rp_racelines.proofs.Showing.{all_shown}
use Rattle.rp_racelines.proofs.laws.the_replies_of_a_race_can_be_shown.Goals as goal

pub returns : goal.returns
returns c rules nodes w reached = all_shown nodes w reached rules

use Rattle.rp_recorded.proofs.Replies.{outcome_is_shown, replies_are_shown}
use Rattle.rp_recorded.proofs.laws.each_outcome_can_be_shown.Goals as goal

pub returns-clause-replies : goal.returns-clause-replies
returns-clause-replies c = replies_are_shown

pub returns-clause-attempt : goal.returns-clause-attempt
returns-clause-attempt c = outcome_is_shown

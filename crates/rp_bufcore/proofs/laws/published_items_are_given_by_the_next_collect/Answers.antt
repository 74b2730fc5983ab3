use Rattle.rp_bufcore.proofs.Running.{given_by_the_next}
use Rattle.rp_bufcore.proofs.laws.published_items_are_given_by_the_next_collect.Goals as goal

pub returns : goal.returns
returns c = given_by_the_next

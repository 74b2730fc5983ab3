use Rattle.rp_request.proofs.Opened.{item_tells}
use Rattle.rp_request.proofs.laws.a_taken_ask_gives_the_lease_that_follows.Goals as goal

pub returns : goal.returns
returns c = item_tells

use Rattle.rp_told.proofs.laws.an_event_asks_for_its_attempt.Goals as goal
use Rattle.rp_told.proofs.Asks.{asked_known, first_unasked, was_asked_now}
use Rattle.rp_told.proofs.Requests.{request_now}

pub returns : goal.returns
returns c = record { asked = was_asked_now; request = request_now; known = asked_known; first = first_unasked }

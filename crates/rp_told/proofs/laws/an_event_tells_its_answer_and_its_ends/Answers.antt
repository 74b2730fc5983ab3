use Rattle.rp_told.proofs.laws.an_event_tells_its_answer_and_its_ends.Goals as goal
use Rattle.rp_told.proofs.Asks.{no_ends}
use Rattle.rp_told.proofs.Ends.{ends_once, ends_pending}
use Rattle.rp_told.proofs.Telling.{told_now}

pub returns : goal.returns
returns c = record { outcomes = told_now; once = ends_once; pending = ends_pending; admission = no_ends }

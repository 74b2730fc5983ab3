use Rattle.rp_told.proofs.laws.what_has_ended_never_waits_again.Goals as goal
use Rattle.rp_told.proofs.Passing.{waits_told, passed, ended_stays, never_waits}

pub returns : goal.returns
returns c = record { waiting = waits_told; passed = passed; stays = ended_stays; never = never_waits }

use Rattle.rp_journals.proofs.laws.each_attempt_ends_once.Goals as goal
use Rattle.rp_journals.proofs.Balancing.{balanced}
use Rattle.rp_journals.proofs.Telling.{told_once, known}

pub returns : goal.returns
returns c = record { balanced = balanced; once = told_once; known = known }

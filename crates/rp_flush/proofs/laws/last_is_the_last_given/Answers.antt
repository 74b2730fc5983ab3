use Rattle.rp_flush.proofs.Numbering.{last_given, last_stays, never_falls}
use Rattle.rp_flush.proofs.laws.last_is_the_last_given.Goals as goal

pub returns-clause-none : goal.returns-clause-none
returns-clause-none c = last_stays

pub returns-clause-given : goal.returns-clause-given
returns-clause-given c = last_given

pub returns-clause-rises : goal.returns-clause-rises
returns-clause-rises c = never_falls

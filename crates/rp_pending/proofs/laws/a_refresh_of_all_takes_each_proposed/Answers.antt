use Rattle.rp_pending.proofs.Parting.{each_one, not_both}
use Rattle.rp_pending.proofs.laws.a_refresh_of_all_takes_each_proposed.Goals as goal

pub returns-clause-each : goal.returns-clause-each
returns-clause-each c = each_one

pub returns-clause-once : goal.returns-clause-once
returns-clause-once c = not_both

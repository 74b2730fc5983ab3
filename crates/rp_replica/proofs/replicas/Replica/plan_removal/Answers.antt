use Rattle.rp_replica.proofs.Ending.{removal_plan}
use Rattle.rp_replica.proofs.replicas.Replica.plan_removal.Goals as goal

pub returns : goal.returns
returns c = removal_plan c.args.self.now.replica c.in_ok-outcomes.outcomes c.in_ok-outcomes.ensures

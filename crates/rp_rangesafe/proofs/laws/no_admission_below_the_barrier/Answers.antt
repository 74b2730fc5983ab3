use Rattle.rp_rangesafe.proofs.Barriers.{past_barrier, barrier_reached}
use Rattle.rp_rangesafe.proofs.laws.no_admission_below_the_barrier.Goals as goal

pub returns : goal.returns
returns c = record { behind = barrier_reached; past = past_barrier }

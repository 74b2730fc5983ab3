use Rattle.rp_rangesafe.proofs.Leases.{renewed_there, barrier_passed}
use Rattle.rp_rangesafe.proofs.laws.a_holder_passes_its_barrier.Goals as goal

pub returns : goal.returns
returns c = record { renewed = renewed_there; passed = λ w r node ask next own present zero. barrier_passed w node ask next own present zero r }

use Rattle.rp_rangesafe.proofs.Leases.{lease_follows_at}
use Rattle.rp_rangesafe.proofs.laws.each_lease_follows_the_one_before.Goals as goal

pub returns : goal.returns
returns c = lease_follows_at

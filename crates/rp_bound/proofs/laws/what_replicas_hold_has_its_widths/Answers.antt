use Rattle.rp_bound.proofs.Along.{stands_fit}
use Rattle.rp_bound.proofs.Small.{replica_below}
use Rattle.rp_bound.proofs.laws.what_replicas_hold_has_its_widths.Goals as goal

pub returns : goal.returns
returns c = record {
  fit = stands_fit;
  below = λ lists w m seen s. replica_below lists w m seen s.bound s.wide.ends s.small;
}

use Rattle.rp_rangesafe.proofs.Whole.{whole_reached}
use Rattle.rp_rangesafe.proofs.laws.a_further_attempt_follows_a_refusal.Goals as goal

pub returns : goal.returns
returns c = record {
  refused = λ w reach. (whole_reached w reach).turns;
  counted = λ w reach. (whole_reached w reach).counted;
  owned = λ w reach. (whole_reached w reach).owned;
}

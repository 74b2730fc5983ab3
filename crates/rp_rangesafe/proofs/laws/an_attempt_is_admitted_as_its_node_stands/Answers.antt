use Rattle.rp_rangesafe.proofs.Admissions.{admits, as_its_node}
use Rattle.rp_rangesafe.proofs.laws.an_attempt_is_admitted_as_its_node_stands.Goals as goal

pub returns : goal.returns
returns c = record {
  attempt = admits;
  index = λ w e l id new born. (as_its_node w e l id new born).index;
  seq = λ w e l id new born. (as_its_node w e l id new born).seq;
  holder = λ w e l id new born. (as_its_node w e l id new born).holder;
}

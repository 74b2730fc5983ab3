use Rattle.rp_rangesafe.proofs.Runs.{later_grown}
use Rattle.rp_rangesafe.proofs.laws.an_admitted_attempt_stays_what_it_was.Goals as goal

pub returns : goal.returns
returns c = record {
  born = λ w later l id b. ((later_grown w later l id).same b).born;
  node = λ w later l id b. ((later_grown w later l id).same b).node;
  index = λ w later l id b. ((later_grown w later l id).same b).behind;
  seq = λ w later l id b. ((later_grown w later l id).same b).seq;
  body = λ w later l id b. ((later_grown w later l id).same b).body;
}

use Rattle.rp_race.proofs.laws.a_nodes_rounds_are_in_its_journal.Goals as goal
use Rattle.rp_race.proofs.Counted.{all_counted, kept_few}

pub returns : goal.returns
returns c = record {
  count = λ nodes w reached node n has. (all_counted nodes w reached node n has).rounds;
  sent = λ nodes w reached node n has round place sent r. kept_few n (all_counted nodes w reached node n has) round place sent r;
}

use Rattle.rp_bound.proofs.Quiet.{quiet_went}
use Rattle.rp_bound.proofs.laws.quiet_events_are_steps_of_all_ranges.Goals as goal

pub returns : goal.returns
returns c = record {
  lawful = λ m range there events lawful quiet. (quiet_went m range there events lawful quiet).lawful;
  own = λ m range there events lawful quiet. (quiet_went m range there events lawful quiet).beside.own;
  others = λ m range there events lawful quiet. (quiet_went m range there events lawful quiet).beside.others;
}

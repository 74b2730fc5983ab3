use Rattle.rp_switch_laws.proofs.laws.no_answer_is_invented.Goals as goal
use Rattle.rp_switch_laws.proofs.Barred.{none_at_first, of_its_client, not_early}

pub returns : goal.returns
returns c = record { none = none_at_first; others = of_its_client; early = not_early }

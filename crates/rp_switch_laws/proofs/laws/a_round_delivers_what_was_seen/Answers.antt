use Rattle.rp_switch_laws.proofs.laws.a_round_delivers_what_was_seen.Goals as goal
use Rattle.rp_switch_laws.proofs.Barred.{hears_all}

pub returns : goal.returns
returns c = hears_all

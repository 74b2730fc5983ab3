use Rattle.rp_switch_laws.proofs.laws.nothing_follows_an_ambiguous_try.Goals as goal
use Rattle.rp_switch_laws.proofs.Barred.{not_again, not_while_out}

pub returns : goal.returns
returns c = record { ambiguous = not_again; pending = not_while_out }

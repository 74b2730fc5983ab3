use Rattle.rp_switch_laws.proofs.laws.no_seat_admits_for_another.Goals as goal
use Rattle.rp_switch_laws.proofs.Barred.{not_admitted}

pub returns : goal.returns
returns c = not_admitted

use Rattle.rp_allowed.proofs.laws.every_reached_world_is_firm.Goals as goal
use Rattle.rp_allowed.proofs.Firm.{reached_firm}

pub returns : goal.returns
returns c = reached_firm

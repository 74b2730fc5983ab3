use Rattle.rp_script.proofs.Rules.{refused_exactly}
use Rattle.rp_script.proofs.laws.refused_exactly.Goals as goal

pub returns : goal.returns
returns c = refused_exactly

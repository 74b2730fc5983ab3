use Rattle.rp_script.proofs.Rules.{requests_refused_exactly}
use Rattle.rp_script.proofs.laws.requests_refused_exactly.Goals as goal

pub returns : goal.returns
returns c = requests_refused_exactly

use Rattle.rp_bufcore.proofs.Stepping.{collect_is_steps}
use Rattle.rp_bufcore.proofs.laws.a_collect_is_its_steps.Goals as goal

pub returns : goal.returns
returns c = collect_is_steps

use Rattle.rp_rangesafe.proofs.laws.refused_never_takes_effect.Goals as goal
use Rattle.rp_rangesafe.proofs.OneRange.{refused_never}

pub returns : goal.returns
returns c = refused_never

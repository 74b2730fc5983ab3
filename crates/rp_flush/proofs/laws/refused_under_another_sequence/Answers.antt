use Rattle.rp_flush.proofs.Shares.{refused}
use Rattle.rp_flush.proofs.laws.refused_under_another_sequence.Goals as goal

pub returns : goal.returns
returns c = refused

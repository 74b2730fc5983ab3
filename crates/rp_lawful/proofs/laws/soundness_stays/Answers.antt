use Rattle.rp_lawful.proofs.laws.soundness_stays.Goals as goal
use Rattle.rp_lawful.proofs.Playing.{raised}

pub returns : goal.returns
returns c = λ k m p s le. raised k m p le s

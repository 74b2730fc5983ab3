use Rattle.rp_flush.proofs.Shares.{given}
use Rattle.rp_flush.proofs.laws.given_under_the_present_sequence.Goals as goal

pub returns : goal.returns
returns c = given

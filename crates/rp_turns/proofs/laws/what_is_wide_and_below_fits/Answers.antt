use Rattle.rp_turns.proofs.Kept.{fit_all}
use Rattle.rp_turns.proofs.laws.what_is_wide_and_below_fits.Goals as goal

pub returns : goal.returns
returns c = fit_all

use Rattle.rp_recorded.proofs.Views.{view_shown}
use Rattle.rp_recorded.proofs.laws.what_is_shown_can_be_written.Goals as goal

pub returns : goal.returns
returns c = view_shown

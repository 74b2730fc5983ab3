use Rattle.rp_turns.proofs.Kept.{first_wide}
use Rattle.rp_turns.proofs.laws.the_first_world_is_wide.Goals as goal

pub returns : goal.returns
returns c = first_wide

use Rattle.rp_turns.proofs.Whole.{scene_turned}
use Rattle.rp_turns.proofs.laws.a_lawful_scene_turns_each_range.Goals as goal

pub returns : goal.returns
returns c = scene_turned

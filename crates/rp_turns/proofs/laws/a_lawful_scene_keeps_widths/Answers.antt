use Rattle.rp_turns.proofs.Kept.{scene_kept}
use Rattle.rp_turns.proofs.laws.a_lawful_scene_keeps_widths.Goals as goal

pub returns : goal.returns
returns c = scene_kept

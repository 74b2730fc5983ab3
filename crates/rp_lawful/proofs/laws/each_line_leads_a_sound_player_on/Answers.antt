use Rattle.rp_lawful.proofs.laws.each_line_leads_a_sound_player_on.Goals as goal
use Rattle.rp_lawful.proofs.Playing.{line_leads}

pub returns : goal.returns
returns c = λ k p s short number line fits q ok. line_leads k p s short number line fits q ok

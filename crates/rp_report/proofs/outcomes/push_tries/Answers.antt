use Rattle.rp_report.proofs.Joined.{joined}
use Rattle.rp_report.proofs.outcomes.push_tries.Goals as goal

pub returns : goal.returns
returns c = joined _ _ _ _ _ _ c.in_ok-push_word.ensures.ok c.spell_refusal.ensures

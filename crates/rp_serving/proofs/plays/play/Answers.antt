use Rattle.std.proofs.Common.{rules}
use Rattle.rp_serving.proofs.Rounding.{whole_ok, broken_err}
use Rattle.rp_serving.proofs.plays.play.Goals as goal

pub returns-clause-whole : goal.returns-clause-whole
returns-clause-whole g c = whole_ok c.play.result _ _ _ (search rules) c.requires.has c.play.ensures.whole

pub returns-clause-broken_off : goal.returns-clause-broken_off
returns-clause-broken_off g c = broken_err c.play.result _ _ _ (search rules) c.requires.has c.play.ensures.broken_off

use Rattle.std.specs.Prelude.{◌≡◌, Some}
use Rattle.rp_race.proofs.laws.what_is_learnt_is_so.Goals as goal
use Rattle.rp_journals.proofs.Asking.{asked_once}
use Rattle.rp_race.proofs.Told.{told_there}
use Rattle.rp_race.proofs.Trying.{tries_learnt}

pub returns : goal.returns
returns c = λ rules nodes w reached client tries h node n has k id outcome here.
    let t = told_there nodes w reached node n has k id outcome here in
    tries_learnt rules w (asked_once nodes w reached) client id outcome node n has t.asked t.told t.ended tries h

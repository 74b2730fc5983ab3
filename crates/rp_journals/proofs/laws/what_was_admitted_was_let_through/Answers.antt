use Rattle.rp_journals.proofs.laws.what_was_admitted_was_let_through.Goals as goal
use Rattle.rp_journals.proofs.Admitting.{was_admitted, admitted_under}

pub returns : goal.returns
returns c = record { guards = was_admitted; under = admitted_under }

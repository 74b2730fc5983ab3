use Rattle.rp_allowed.proofs.laws.every_lawful_event_may_come.Goals as goal
use Rattle.rp_request.specs.Applied.{AppliedState}
use Rattle.rp_raftsafe.proofs.Known.{one_list_holds}
use Rattle.rp_allowed.proofs.Firm.{reached_firm}
use Rattle.rp_allowed.proofs.Stepping.{may_step}

pub returns : goal.returns
returns c = λ nodes w reached x lawful n has e came.
    may_step (one_list_holds AppliedState) nodes w reached (reached_firm (one_list_holds AppliedState) nodes w reached) x lawful n has e came

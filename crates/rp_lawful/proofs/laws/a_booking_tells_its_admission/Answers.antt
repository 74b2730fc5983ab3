use Rattle.rp_lawful.proofs.laws.a_booking_tells_its_admission.Goals as goal
use Rattle.rp_journals.proofs.Asking.{asked_once}
use Rattle.rp_lawful.proofs.Nexts.{asked_so_at, asked_so_was, asked_so_request}

pub returns : goal.returns
returns c = record {
  asked = asked_so_at;
  was = asked_so_was;
  request = λ nodes w reached id b is. asked_so_request w (asked_once nodes w reached) id b is;
}

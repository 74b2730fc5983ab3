use Rattle.rp_seats.proofs.laws.what_is_let_through_is_admitted.Goals as goal
use Rattle.rp_seats.proofs.Admits.{lawful, admitted_seat, numbered}

pub returns : goal.returns
returns c = record {
  may = λ node range h told r s state number keys id request has_keys unborn e passes. lawful node range h told r s state number keys id request has_keys unborn e passes;
  seat = λ node range h told r s state number keys id request has_keys unborn e passes. admitted_seat node range h told r s state number keys id request has_keys unborn e passes;
  number = numbered;
}

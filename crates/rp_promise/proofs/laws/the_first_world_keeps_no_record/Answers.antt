use Rattle.rp_promise.proofs.laws.the_first_world_keeps_no_record.Goals as goal
use Rattle.rp_promise.proofs.First.{first_records}
use Rattle.rp_promise.proofs.Made.{first_admitted}

pub returns : goal.returns
returns c = record {
  records = λ lists nodes few m seen b. first_records lists nodes few m seen b;
  admitted = λ lists nodes few m seen b. first_admitted lists nodes few m seen b;
}

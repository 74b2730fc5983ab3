use Rattle.rp_promise.proofs.Along.{kept_by_reached, kept_by_told}
use Rattle.rp_promise.proofs.laws.the_promise_is_kept.Goals as goal

pub returns : goal.returns
returns c = record { reached = kept_by_reached; told = kept_by_told }

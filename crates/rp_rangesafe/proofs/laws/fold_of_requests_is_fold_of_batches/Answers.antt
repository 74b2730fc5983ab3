use Rattle.rp_rangesafe.proofs.OneRange.{fold_is_state, node_shows}
use Rattle.rp_rangesafe.proofs.laws.fold_of_requests_is_fold_of_batches.Goals as goal

pub returns : goal.returns
returns c = record { list = fold_is_state; nodes = node_shows }

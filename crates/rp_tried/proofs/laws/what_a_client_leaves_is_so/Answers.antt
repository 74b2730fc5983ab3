use Rattle.rp_tried.proofs.laws.what_a_client_leaves_is_so.Goals as goal
use Rattle.rp_tried.proofs.Ended.{left_so}

pub returns : goal.returns
returns c = left_so

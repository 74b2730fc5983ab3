use Rattle.std.proofs.Common.{◌∙◌, arith}
use Rattle.rp_request.proofs.Does.{few_keys}
use Rattle.rp_eval.proofs.evaluations.wipe.Goals as goal

pub removals-requires : goal.removals-requires
removals-requires c = few_keys _ _ _ (c.as_slice.ensures ∙ c.in_ok-keys.ensures) c.count_in-count.ensures (omega arith)

use Rattle.std.proofs.Common.{◌≡◌, take}
use Rattle.rp_request.specs.Batches.{removes}
use Rattle.rp_eval.proofs.evaluations.removals.Given as goal

abbrev pub invariant-loop-key : goal.invariant-loop-key
invariant-loop-key l = l.batch ≡ removes (take l.key-index l.keys)

use Rattle.std.proofs.Common.{◌≡◌}
use Rattle.rp_quota.specs.Shares.{known_by, IsShareOf}
use Rattle.rp_calls.proofs.quota.use_often.Given as goal

abbrev pub invariant-loop : goal.invariant-loop
invariant-loop l = record {
  of : IsShareOf l.fn.quota l.share;
  parts : (known_by l.share).parts ≡ (known_by l.fn.share).parts;
}

use Rattle.std.proofs.Common.{◌≡◌}
use Rattle.rp_calls.proofs.raftlog.long_log.Given as goal

abbrev pub invariant-loop-byte : goal.invariant-loop-byte
invariant-loop-byte l = l.log.log.base ≡ 10

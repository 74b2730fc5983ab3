use Rattle.std.proofs.Common.{◌≡◌, [], replicate}
use Rattle.rp_racelines.proofs.lines.nothing_sent.Given as goal

abbrev pub invariant-loop-client : goal.invariant-loop-client
invariant-loop-client l = l.sent.items ≡ replicate l._client (record { requests = [] })

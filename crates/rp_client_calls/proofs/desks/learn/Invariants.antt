use Rattle.std.proofs.Common.{◌≡◌, ◌++◌, take, drop}
use Rattle.rp_clients.specs.Tries.{learns}
use Rattle.rp_client_calls.proofs.desks.learn.Given as goal

abbrev pub invariant-loop-place : goal.invariant-loop-place
invariant-loop-place l = take l.place l.tries ++ learns l.id l.outcome (drop l.place l.tries) ≡ learns l.id l.outcome l.fn.tries

use Rattle.std.proofs.Common.{◌≡◌, ◌++◌, drop}
use Rattle.rp_replica.specs.Handing.{EachReads, asks_spelled}
use Rattle.rp_replica.proofs.payloads.push_asks.Given as goal

-- the bytes so far, and those of the asks that are left, are those of all of them
abbrev pub invariant-loop-ask : goal.invariant-loop-ask
invariant-loop-ask l = record {
  bytes : l.bytes ++ asks_spelled (drop l.ask-index l.asks) ≡ l.fn.bytes ++ asks_spelled l.asks;
  read : EachReads l.bytes;
}

use Rattle.std.proofs.Common.{◌≡◌, ◌++◌, drop}
use Rattle.rp_replica.specs.Handing.{EachReads, moves_spelled}
use Rattle.rp_replica.proofs.payloads.push_moves.Given as goal

-- the bytes so far, and those of the moves that are left, are those of all of them
abbrev pub invariant-loop-one : goal.invariant-loop-one
invariant-loop-one l = record {
  bytes : l.bytes ++ moves_spelled l.pending.list (drop l.one-index l.moves) ≡ l.fn.bytes ++ moves_spelled l.pending.list l.moves;
  read : EachReads l.bytes;
}

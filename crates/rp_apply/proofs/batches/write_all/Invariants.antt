use Rattle.std.proofs.Common.{◌≡◌, ◌+◌, ◌≤◌, length, drop}
use Rattle.rp_request.specs.Batches.{write_all}
use Rattle.rp_apply.proofs.batches.write_all.Given as goal

abbrev pub invariant-loop-op : goal.invariant-loop-op
invariant-loop-op l = record {
  map : write_all l.table.map (drop l.op-index l.ops) ≡ write_all l.fn.table.map l.ops;
  room : length (drop l.op-index l.ops) ≤ l.table.spare;
  spare : l.fn.table.spare + length (drop l.op-index l.ops) ≤ l.table.spare + length l.ops;
}

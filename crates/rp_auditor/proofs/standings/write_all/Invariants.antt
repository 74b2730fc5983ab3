use Rattle.std.proofs.Common.{◌≡◌, drop}
use Rattle.rp_request.specs.Batches.{write_all}
use Rattle.rp_auditor.proofs.standings.write_all.Given as goal

-- what the writes that are left make of the table is what all make of it
abbrev pub invariant-loop-op : goal.invariant-loop-op
invariant-loop-op l = write_all l.table.map (drop l.op-index l.ops) ≡ write_all l.fn.table.map l.ops

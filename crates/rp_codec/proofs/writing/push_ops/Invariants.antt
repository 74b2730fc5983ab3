use Rattle.std.proofs.Common.{◌≡◌, ◌++◌, take}
use Rattle.std.specs.List.{flat_map, AllByRecursion}
use Rattle.rp_request.specs.Fits.{FitsOp}
use Rattle.rp_codec.specs.Spelling.{op_bytes}
use Rattle.rp_codec.proofs.writing.push_ops.Given as goal

abbrev pub invariant-loop-op : goal.invariant-loop-op
invariant-loop-op l = record {
  bytes : l.out.items ≡ l.fn.out.items ++ flat_map (op_bytes l.texts) (take l.op-index l.ops);
  fits : AllByRecursion FitsOp (take l.op-index l.ops);
}

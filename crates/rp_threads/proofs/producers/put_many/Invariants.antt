use Rattle.std.proofs.Common.{◌≡◌}
use Rattle.rp_buffer.specs.Passes.{known_by, IsPassOf}
use Rattle.rp_threads.proofs.producers.put_many.Given as goal

abbrev pub invariant-loop-seq : goal.invariant-loop-seq
invariant-loop-seq l = record {
  of : IsPassOf l.fn.table l.pass;
  parts : (known_by l.pass).parts ≡ (known_by l.fn.pass).parts;
}

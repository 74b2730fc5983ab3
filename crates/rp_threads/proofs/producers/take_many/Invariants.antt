use Rattle.std.proofs.Common.{◌≡◌}
use Rattle.rp_buffer.specs.Passes.{known_by, IsPassOf}
use Rattle.rp_threads.proofs.producers.take_many.Given as goal

abbrev pub invariant-loop : goal.invariant-loop
invariant-loop l = record {
  of : IsPassOf l.fn.table l.flush.pass;
  node : l.flush.node ≡ 1;
  parts : (known_by l.flush.pass).parts ≡ (known_by l.fn.flush.pass).parts;
}

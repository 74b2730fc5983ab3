use Rattle.std.proofs.Common.{◌≡◌}
use Rattle.rp_buffer.specs.Passes.{known_by, IsSame}
use Rattle.rp_threads.proofs.one_thread.put_sixteen.Given as goal

abbrev pub invariant-loop-seq : goal.invariant-loop-seq
invariant-loop-seq l = record {
  same : IsSame l.fn.pass l.pass;
  parts : (known_by l.pass).parts ≡ (known_by l.fn.pass).parts;
}

use Rattle.std.proofs.Common.{◌≡◌, ◌-◌, length}
use Rattle.rp_codec.specs.Reading.{ops_at}
use Rattle.rp_codec.proofs.Writes.{with_front}
use Rattle.rp_codec.proofs.reading.ops.Given as goal

abbrev pub invariant-loop : goal.invariant-loop
invariant-loop l = record {
  same : with_front l.batch (ops_at l.texts (l.count - l.counter) l.cursor) ≡ ops_at l.texts l.count l.fn.cursor;
  room : length l.batch ≡ l.counter;
}

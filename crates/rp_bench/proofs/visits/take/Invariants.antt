use Rattle.std.proofs.Common.{◌≡◌}
use Rattle.rp_switch.specs.Seats.{known_by}
use Rattle.rp_bench.specs.Visits.{IsQuiet}
use Rattle.rp_bench.proofs.visits.take.Given as goal

-- the seat only noted what its exchanges told
abbrev pub invariant-loop : goal.invariant-loop
invariant-loop g l = record {
  table : l.seat.seat.table_id ≡ l.fn.seat.seat.table_id;
  quiet : IsQuiet (known_by l.fn.seat) (known_by l.seat);
}

use Rattle.std.proofs.Common.{◌≡◌, ◌≤◌, length}
use Rattle.std.specs.List.{filter}
use Rattle.rp_latch.specs.Holds.{is_of_other}
use Rattle.rp_latch.proofs.latches.Latches.free.Given as goal

abbrev pub invariant-loop-id : goal.invariant-loop-id
invariant-loop-id l = record {
  others : filter (is_of_other l.id) l.self.list ≡ filter (is_of_other l.id) l.fn.self.list;
  spare : l.fn.self.spare ≤ l.self.spare;
}

abbrev pub decreases-loop-id : goal.decreases-loop-id
decreases-loop-id l = length l.self.list

use Rattle.std.proofs.Common.{◌-◌, ◌<◌, ◌≤◌, length}
use Rattle.std.specs.List.{AllWithin}
use Rattle.rp_latch.specs.declared.index.Latch.{Latch}
use Rattle.rp_latch.proofs.index.place_of.Given as goal

abbrev pub invariant-loop-low : goal.invariant-loop-low
invariant-loop-low l = record {
  in_order : l.low ≤ l.high;
  within : l.high ≤ length l.latches.list;
  before : AllWithin (λ (x : Latch). x.span.start < l.bound) l.latches.list 0 l.low;
  after : AllWithin (λ (x : Latch). l.bound ≤ x.span.start) l.latches.list l.high (length l.latches.list);
}

abbrev pub decreases-loop-low : goal.decreases-loop-low
decreases-loop-low l = l.high - l.low

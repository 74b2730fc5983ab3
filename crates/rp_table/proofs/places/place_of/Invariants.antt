use Rattle.std.proofs.Common.{ℕ, ◌-◌, ◌<◌, ◌≤◌, length}
use Rattle.rp_table.specs.Place.{key_at}
use Rattle.rp_table.proofs.places.place_of.Given as goal

abbrev pub invariant-loop-low : goal.invariant-loop-low
invariant-loop-low l = record {
  in_order : l.low ≤ l.high;
  within : l.high ≤ length l.rows.list;
  before : (j : ℕ) → j < l.low → key_at l.rows.list j < l.key;
  after : (j : ℕ) → l.high ≤ j → j < length l.rows.list → l.key ≤ key_at l.rows.list j;
}

abbrev pub decreases-loop-low : goal.decreases-loop-low
decreases-loop-low l = l.high - l.low

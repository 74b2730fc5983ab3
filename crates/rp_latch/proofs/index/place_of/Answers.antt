use Rattle.std.proofs.Common.{arith}
use Rattle.rp_latch.proofs.Places.{start_below_to, start_above_from}
use Rattle.rp_latch.proofs.index.place_of.Goals as goal

pub loop-low-preserved-then-at-bound : goal.loop-low-preserved-then-at-bound
loop-low-preserved-then-at-bound c = record {
  in_order = omega arith;
  within = c.loop-low.invariant.within;
  before = start_below_to _ c.requires _ _ c.at.result.now (omega arith) c.at.ensures (omega arith);
  after = c.loop-low.invariant.after;
}

pub loop-low-preserved : goal.loop-low-preserved
loop-low-preserved c = record {
  in_order = omega arith;
  within = omega arith;
  before = c.loop-low.invariant.before;
  after = start_above_from _ c.requires _ _ c.at.result.now (omega arith) c.at.ensures (omega arith);
}

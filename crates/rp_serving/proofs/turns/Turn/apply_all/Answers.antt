use Rattle.rp_serving.proofs.Stepping.{applied_heard, applied_may, hears_again}
use Rattle.rp_serving.proofs.turns.Turn.apply_all.Goals as goal

pub loop-range-preserved : goal.loop-range-preserved
loop-range-preserved g c =
    let w = c.in_ok-happen.ensures.ok in
    record {
      under_way = w.under_way;
      may = applied_may _ _ _ _ _ _ c.in-Some.range w;
      heard = hears_again _ _ _ c.loop-range.invariant.heard (applied_heard _ _ _ _ _ _ c.in-Some.range w);
    }

use Rattle.std.proofs.Common.{ℕ, ap, arith}
use Rattle.rp_base.specs.declared.values.Value.{Value}
use Rattle.rp_table.proofs.Rows.{below_to, above_from}
use Rattle.rp_table.proofs.places.place_of.Goals as goal

pub loop-low-preserved-then-bound-key : goal.loop-low-preserved-then-bound-key
loop-low-preserved-then-bound-key c =
    let read = ap (λ (row : ℕ × Value). row.0) c.at.ensures in
    record {
      in_order = omega arith;
      within = c.loop-low.invariant.within;
      before = below_to _ _ _ c.at.result.now c.requires (omega arith) (omega arith);
      after = c.loop-low.invariant.after;
    }

pub loop-low-preserved : goal.loop-low-preserved
loop-low-preserved c =
    let read = ap (λ (row : ℕ × Value). row.0) c.at.ensures in
    record {
      in_order = omega arith;
      within = omega arith;
      before = c.loop-low.invariant.before;
      after = above_from _ _ _ c.at.result.now c.requires (omega arith) (omega arith);
    }

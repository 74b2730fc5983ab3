use Rattle.std.proofs.Common.{ℕ, ◌+◌, subst, sym, ◌∙◌}
use Rattle.std.specs.Slots.{slots_filled, slots_len}
use Rattle.rp_switch.specs.Closings.{IsEmptiedTo}
use Rattle.rp_switch.proofs.Closing.{emptied_next}
use Rattle.rp_switch.proofs.closes.drop_cells.Goals as goal

pub loop-place-preserved : goal.loop-place-preserved
loop-place-preserved g c =
    let was = c.loop-place.invariant in
    let step = c.take.ensures.others in
    record {
      end = was.end ∙ sym step.2;
      emptied = subst (λ (n : ℕ). IsEmptiedTo (c.loop-place.place + 1) n (slots_filled c.take.new.self.slots)) (sym step.2)
          (emptied_next (slots_filled c.loop-place.closed.slots) (slots_filled c.take.new.self.slots) c.loop-place.place (slots_len c.loop-place.closed.slots) step.1 was.emptied);
    }

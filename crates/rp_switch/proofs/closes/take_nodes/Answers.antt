use Rattle.std.proofs.Common.{ℕ, ◌+◌, ◌++◌, slice_index_or, arith, subst, sym, ap, ◌∙◌, refl}
use Rattle.std.specs.Slots.{slots_items, slots_filled, slots_len}
use Rattle.rp_switch.specs.declared.slots.Slot.TheVariants.{Nothing}
use Rattle.rp_switch.specs.Closings.{body_in, IsEmptiedTo}
use Rattle.rp_switch.proofs.Closing.{bodies_none, bodies_next, emptied_next}
use Rattle.rp_switch.proofs.closes.take_nodes.Goals as goal

pub loop-place-init : goal.loop-place-init
loop-place-init g c = let room = c.requires.room in record {
  items = refl;
  count = refl;
  emptied = record { rest = λ k low high. c.requires.full k (omega arith) high; gone = λ k low. absurd (omega (arith, low)) };
  room = omega (arith, room);
  found = bodies_none _ _;
}

pub loop-place-preserved : goal.loop-place-preserved
loop-place-preserved g c =
    let was = c.loop-place.invariant in
    let step = c.take_out.ensures in
    let room = was.room in
    let more = step.room in
    let place = c.loop-place.place in
    record {
      items = step.items ∙ was.items;
      count = step.slots ∙ was.count;
      emptied = subst (λ (n : ℕ). IsEmptiedTo (place + 1) n (slots_filled c.take_out.new.closed.slots)) (sym step.slots)
          (emptied_next (slots_filled c.loop-place.closed.slots) (slots_filled c.take_out.new.closed.slots) place (slots_len c.loop-place.closed.slots) step.filled was.emptied);
      room = omega (arith, room, more);
      found = bodies_next place (slots_items c.args.closed.now.slots) c.args.nodes.now.list c.loop-place.nodes.list c.take_out.new.nodes.list was.found
          (step.found ∙ ap (λ xs. c.loop-place.nodes.list ++ body_in (slice_index_or xs place Nothing)) was.items);
    }

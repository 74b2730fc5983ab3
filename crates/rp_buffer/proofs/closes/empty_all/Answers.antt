use Rattle.std.proofs.Common.{rules, ◌≡◌, ◌+◌, ◌<◌, ◌≤◌, ◌++◌, false, None, length, slice_index, slice_index_or, slice_set, ℕ, ◌-◌, List, [], ◌∷◌, Option, arith, subst, sym, ap, ◌∙◌, refl}
use Rattle.std.specs.Slots.{slots_items, slots_filled, slots_len, IsFull}
use Rattle.rp_base.specs.declared.items.Item.{Item}
use Rattle.rp_buffer.specs.Lefts.{found_at, lying}
use Rattle.rp_buffer.proofs.Closing.{lying_none, lying_next, emptied_next}
use Rattle.rp_buffer.proofs.closes.empty_all.Goals as goal

pub loop-place-init : goal.loop-place-init
loop-place-init c = let count = c.requires.slots.0 in let room = c.requires.room in record {
  words = refl;
  items = refl;
  count = count;
  emptied = record { rest = λ k low high. c.requires.slots.1 k (omega arith) (omega (arith, high, count)); gone = λ k low. absurd (omega (arith, low)) };
  room = omega (arith, room);
  found = lying_none _ _ _;
}

pub loop-place-preserved : goal.loop-place-preserved
loop-place-preserved c =
    let was = c.loop-place.invariant in
    let step = c.empty.ensures in
    let room = was.room in
    let more = step.room in
    let place = c.loop-place.place in
    record {
      words = step.words ∙ was.words;
      items = step.items ∙ was.items;
      count = step.slots ∙ was.count;
      emptied = emptied_next _ _ _ step.filled was.emptied;
      room = omega (arith, room, more);
      found = lying_next place (slots_items c.args.closed.words) (slots_items c.args.closed.slots) _ _ _ was.found
          (step.found ∙ ap (λ ws. c.loop-place.left.list ++ found_at place (slice_index (slots_items ws) (40 + place)) (slice_index_or (slots_items c.loop-place.closed.slots) place None)) was.words
          ∙ ap (λ (xs : List (Option Item)). c.loop-place.left.list ++ found_at place (slice_index (slots_items c.args.closed.words) (40 + place)) (slice_index_or xs place None)) was.items);
    }

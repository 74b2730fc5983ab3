use Rattle.std.proofs.Common.{◌≡◌, ◌+◌, ◌<◌, ◌≤◌, ◌++◌, ◌-◌}
use Rattle.std.specs.Slots.{slots_items, slots_filled, slots_len, IsFull}
use Rattle.rp_buffer.specs.Lefts.{lying}
use Rattle.rp_buffer.proofs.Closing.{Emptied}
use Rattle.rp_buffer.proofs.closes.empty_all.Given as goal

-- the places below this one are emptied
abbrev pub invariant-loop-place : goal.invariant-loop-place
invariant-loop-place l = record {
  words : l.closed.words ≡ l.fn.closed.words;
  items : slots_items l.closed.slots ≡ slots_items l.fn.closed.slots;
  count : slots_len l.closed.slots ≡ 640;
  emptied : Emptied (slots_filled l.closed.slots) l.place;
  room : 640 ≤ l.left.spare + l.place;
  found : l.left.list ≡ l.fn.left.list ++ lying l.place (slots_items l.fn.closed.words) (slots_items l.fn.closed.slots);
}

use Rattle.std.proofs.Common.{◌≡◌, ◌+◌, ◌≤◌, ◌++◌}
use Rattle.std.specs.Slots.{slots_items, slots_filled, slots_len}
use Rattle.rp_switch.specs.Closings.{bodies, IsEmptiedTo}
use Rattle.rp_switch.proofs.closes.take_nodes.Given as goal

-- the slots below this place are emptied
abbrev pub invariant-loop-place : goal.invariant-loop-place
invariant-loop-place g l = record {
  items : slots_items l.closed.slots ≡ slots_items l.fn.closed.slots;
  count : slots_len l.closed.slots ≡ slots_len l.fn.closed.slots;
  emptied : IsEmptiedTo l.place (slots_len l.closed.slots) (slots_filled l.closed.slots);
  room : l.fn.count ≤ l.nodes.spare + l.place;
  found : l.nodes.list ≡ l.fn.nodes.list ++ bodies l.place (slots_items l.fn.closed.slots);
}

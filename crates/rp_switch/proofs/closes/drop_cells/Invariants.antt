use Rattle.std.proofs.Common.{◌≡◌}
use Rattle.std.specs.Slots.{slots_filled, slots_len}
use Rattle.rp_switch.specs.Closings.{IsEmptiedTo}
use Rattle.rp_switch.proofs.closes.drop_cells.Given as goal

-- the slots below this place are emptied
abbrev pub invariant-loop-place : goal.invariant-loop-place
invariant-loop-place g l = record {
  end : l.place-end ≡ slots_len l.closed.slots;
  emptied : IsEmptiedTo l.place (slots_len l.closed.slots) (slots_filled l.closed.slots);
}

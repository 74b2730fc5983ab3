use Rattle.std.proofs.Common.{◌≤◌, ◌-◌, ◌+◌, length}
use Rattle.rp_bufcore.proofs.Taking.{Half}
use Rattle.rp_bufcore.proofs.buffers.take_published.Given as goal

abbrev pub invariant-loop-slot : goal.invariant-loop-slot
invariant-loop-slot l = record {
  half : Half l.fn.slots l.fn.out.list l.slot-index l.slots l.out.list;
  spare : length l.slots - l.slot-index ≤ l.out.spare;
  room : l.fn.out.spare + length l.fn.out.list ≤ l.out.spare + length l.out.list;
}

use Rattle.std.proofs.Common.{◌≡◌, ◌+◌, ◌≤◌, take, drop}
use Rattle.rp_slots.proofs.slotted.push_run.Given as goal

abbrev pub invariant-loop-place : goal.invariant-loop-place
invariant-loop-place g l = record {
  room : l.to ≤ l.copy.spare + l.place;
  list : l.copy.list ≡ drop l.from (take l.place l.list.list);
}

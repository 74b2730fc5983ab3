use Rattle.std.proofs.Common.{◌≡◌, ◌≤◌, drop, length}
use Rattle.rp_events.specs.LeaseAsks.{joined_all}
use Rattle.rp_replica.proofs.replicas.Replica.join_all.Given as goal

-- what is left leads from here where all of it led from the start, and has room
abbrev pub invariant-loop-item : goal.invariant-loop-item
invariant-loop-item l = record {
  leads : joined_all l.self.replica (drop l.item-index l.taken) ≡ joined_all l.fn.self.replica l.taken;
  room : length (drop l.item-index l.taken) ≤ l.self.room.inbox;
}

use Rattle.std.proofs.Common.{◌≡◌, ◌≤◌, drop}
use Rattle.rp_events.specs.Moves.{moved_all}
use Rattle.rp_events.specs.Replicas.{untold}
use Rattle.rp_replica.specs.Handing.{items_of}
use Rattle.rp_replica.proofs.replicas.Replica.make_moves.Given as goal

-- what is left leads from here where all of it led from the start, and its items have room
abbrev pub invariant-loop-one : goal.invariant-loop-one
invariant-loop-one l = record {
  leads : (moved_all l.ticks l.round (untold l.self.replica) (drop l.one-index l.moves)).replica
      ≡ (moved_all l.ticks l.round (untold l.fn.self.replica) l.moves).replica;
  room : items_of (drop l.one-index l.moves) ≤ l.self.room.inbox;
}

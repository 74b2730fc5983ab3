-- Flush: the inbox goes to Raft, each command under a lease index (after CockroachDB's proposal buffer,
-- whose flush gives the maximum lease indexes under the replica's lock).
use Rattle.std.specs.Prelude.{ℕ, List, [], map, ◌++◌}
use Rattle.rp_flush.specs.Assigns.{assigned_of}
use Rattle.rp_flush.specs.declared.assigns.Assigned.{Assigned}
use Rattle.rp_pending.specs.Refreshes.{waiting_of}
use Rattle.rp_raftstep.specs.Step.{quiet}
use Rattle.rp_events.specs.Replicas.{Replica, Done, untold, lease_of}
use Rattle.rp_events.specs.declared.moves.Move.{Move}
use Rattle.rp_events.specs.declared.moves.Move.TheVariants.{HandsOut, GivesUp}
use Rattle.rp_events.specs.Moves.{moved_all, hands_to_raft}

-- what a flush assigns here, under the present lease
abbrev pub assigning : Replica → Assigned
assigning r =
    assigned_of r.inbox (waiting_of r.pending) (lease_of r).seq r.applied.state.lai r.assigned

-- an attempt that was evaluated under another sequence is refused; each other one gets its index
abbrev pub flush_moves : Assigned → List Move
flush_moves a = map GivesUp a.refused ++ map (λ write. HandsOut write.0 write.1) a.writes

-- the inbox is empty, and this is the last index that was given
abbrev pub emptied : Replica → Assigned → Replica
emptied r a = record r { assigned = a.last; inbox = [] }

-- lease asks first, then the commands, as one Propose
abbrev pub flushed_by : Replica → (ticks round : ℕ) → Assigned → Done
flushed_by r ticks round a =
    hands_to_raft r (quiet r.raft)
    (moved_all ticks round (untold (emptied r a)) (flush_moves a))
    a.leases
    (map (λ write. write.0) a.writes)

-- Flush, at a tick and in a round of the node
abbrev pub flushed : Replica → (ticks round : ℕ) → Done
flushed r ticks round = flushed_by r ticks round (assigning r)

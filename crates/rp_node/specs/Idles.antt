-- Replicas at which a flush has nothing to do.
use Rattle.std.specs.Prelude.{◌≡◌, false, []}
use Rattle.rp_raftstep.specs.RaftState.{is_leader}
use Rattle.rp_events.specs.Nodes.{Status, Absent, Live, Removed}

-- a replica that does not lead, with an empty inbox
abbrev pub IsIdle : Status → Type 0
IsIdle Absent = ⊥
IsIdle (Live r) = (r.inbox ≡ []) × (is_leader r.raft.head.role ≡ false)
IsIdle (Removed applied) = ⊥

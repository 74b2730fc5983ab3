-- The room of a replica: what it can take without memory.
use Rattle.std.specs.Prelude.{ℕ, ◌≤◌}
use Rattle.rp_apply.specs.Rooms.{IsWithin}
use Rattle.rp_apply.specs.Rooms as applies
use Rattle.rp_events.specs.Replicas.{Replica}

-- how many entries, proposals, holds, items and asks can be added without memory, and what application
-- can
pub record Room : Type 0 where
  pub log : ℕ
  pub applied : applies.Room
  pub latches : ℕ
  pub pending : ℕ
  pub inbox : ℕ
  pub asks : ℕ

-- the one room is no less than the other
pub record IsRoomWithin (less more : Room) : Type 0 where
  pub log : less.log ≤ more.log
  pub applied : IsWithin less.applied more.applied
  pub latches : less.latches ≤ more.latches
  pub pending : less.pending ≤ more.pending
  pub inbox : less.inbox ≤ more.inbox
  pub asks : less.asks ≤ more.asks

-- what contracts see of a replica: it, and its room
pub record Held : Type 0 where
  pub replica : Replica
  pub room : Room

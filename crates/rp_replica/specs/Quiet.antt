-- Ticks at which nothing but the count of ticks changes.
use Rattle.std.specs.Prelude.{ℕ, Bool, false, ◌&&◌, ◌==◌, length}
use Rattle.rp_raft.specs.Quiet as rafts
use Rattle.rp_events.specs.Refreshes.{refreshing}
use Rattle.rp_events.specs.Replicas.{Replica}

-- Raft counts the tick and no more, and no proposal goes back or is proposed again
abbrev pub only_counts : Replica → (ticks : ℕ) → Bool
only_counts r ticks =
    rafts.only_counts r.raft.head
    && length (refreshing r ticks false).again == 0
    && length (refreshing r ticks false).back == 0

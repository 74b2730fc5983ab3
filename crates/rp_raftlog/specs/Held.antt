-- What contracts see of a log that is kept: the log, and its spare room.
use Rattle.std.specs.Prelude.{ℕ}
use Rattle.rp_raftlog.specs.LogState.{LogState}

-- the log, and how many entries can be put behind it without memory
pub record Held : Type 0 where
  pub log : LogState
  pub spare : ℕ

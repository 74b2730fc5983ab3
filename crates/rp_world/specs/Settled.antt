-- The parts of a round, each under one word.
use Rattle.std.specs.Prelude.{ℕ}
use Rattle.rp_lines.specs.Players.{Player, Played}
use Rattle.rp_lines.specs.Settling.{applies_all, passes_all, round, ticks_and_flushes}

-- a node ticks and flushes its ranges
unfoldable pub ticked : (node : ℕ) → Player → Played
ticked node p = ticks_and_flushes node p

-- the messages of a sender come
unfoldable pub passed : (sender : ℕ) → Player → Played
passed sender p = passes_all sender p

-- a node's replicas apply what is committed
unfoldable pub applied : (node : ℕ) → Player → Played
applied node p = applies_all node p

-- a round
unfoldable pub rounded : Player → Played
rounded p = round p

-- A player in the midst of a script.
use Rattle.std.specs.Prelude.{◌≡◌, ℕ, ◌+◌, ◌<◌, ◌^◌, Bool, true, false, Option, None, Some, length}
use Rattle.rp_base.specs.declared.ids.CmdId.{CmdId}
use Rattle.rp_book.specs.declared.bookings.Booked.{Booked}
use Rattle.rp_book.specs.declared.bookings.Draw.TheVariants.{Drawn}
use Rattle.rp_script.specs.declared.lines.ScriptLine.{ScriptLine}
use Rattle.rp_script.specs.declared.lines.ScriptLine.TheVariants as lines
use Rattle.rp_lawful.specs.Sound.{Sound}
use Rattle.rp_lines.specs.Players.{Player}

-- it is sound behind so many lines, and more may come
pub record Going (p : Player) : Type 0 where
  pub lines : ℕ
  pub few : lines + 1 < 2 ^ 16
  pub sound : Sound lines p

-- as many nodes as before
abbrev pub AsMany : (before after : Player) → Type 0
AsMany before after = length after.world.nodes ≡ length before.world.nodes

-- an attempt with the place that it drew
abbrev pub with_place : Booked → Option ℕ → Booked
with_place b None = b
with_place b (Some place) = record b { draw = Drawn place }

-- a line of a client's command
abbrev pub is_command : ScriptLine → Bool
is_command (lines.Send node range client request) = true
is_command (lines.Admit node range client request) = true
is_command (lines.Again node range client seq) = true
is_command (lines.Draw client seq) = true
is_command (lines.Publish client seq) = true
is_command _ = false

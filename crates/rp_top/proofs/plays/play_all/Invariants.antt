use Rattle.std.proofs.Common.{◌≡◌, take, Ok}
use Rattle.rp_lines.specs.Players.{first_player}
use Rattle.rp_lines.specs.Scripts.{played_all}
use Rattle.rp_top.proofs.plays.play_all.Given as goal

-- the lines so far lead here
abbrev pub invariant-loop-line : goal.invariant-loop-line
invariant-loop-line l = record {
  led : played_all (first_player l.nodes) (take l.line-index l.lines) ≡ Ok l.world;
}

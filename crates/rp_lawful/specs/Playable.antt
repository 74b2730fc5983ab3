-- Which lines may be played: the next of a script (this project).
use Rattle.std.specs.Prelude.{◌≡◌, ℕ, ◌+◌, ◌≤◌, List, [], ◌∷◌, ◌++◌, length, false, Ok}
use Rattle.rp_script.specs.Bounds.{AllFollow}
use Rattle.rp_script.specs.Seen.{unseen}
use Rattle.rp_script.specs.declared.lines.NumberedLine.{NumberedLine}
use Rattle.rp_script.specs.declared.lines.ScriptLine.TheVariants as lines
use Rattle.rp_lines.specs.Players.{Player, first_player}
use Rattle.rp_lines.specs.Scripts.{played_all}

-- the line of a script that names so many nodes
abbrev pub cluster_at : (number nodes : ℕ) → NumberedLine
cluster_at number nodes = record { number = number; line = lines.Cluster nodes }

-- the lines behind the first of a script, which names so many nodes: each may follow those before it, and
-- there are 65,536 lines at most
pub record IsFront (nodes : ℕ) (ls : List NumberedLine) : Type 0 where
  pub number : ℕ
  pub follow : AllFollow (unseen false) (cluster_at number nodes ∷ ls)
  pub few : 1 + length ls ≤ 65536

-- the line may be played: it comes next in a script, behind the lines that led to this player
pub record CanPlay (nodes : ℕ) (p : Player) (l : NumberedLine) : Type 0 where
  pub lines : List NumberedLine
  pub played : played_all (first_player nodes) lines ≡ Ok p
  pub front : IsFront nodes (lines ++ l ∷ [])

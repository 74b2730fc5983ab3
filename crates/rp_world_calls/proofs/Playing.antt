-- A first line may be played in a world that has played none.
use Rattle.std.proofs.Common.{◌≡◌, ℕ, ◌≤◌, [], length, arith, refl, sym, subst}
use Rattle.rp_script.specs.Bounds.{IsNode}
use Rattle.rp_script.specs.declared.lines.NumberedLine.{NumberedLine}
use Rattle.rp_script.specs.declared.lines.ScriptLine.TheVariants as lines
use Rattle.rp_lines.specs.Players.{Player, first_player}
use Rattle.rp_lawful.specs.Playable.{CanPlay}

-- the line behind the one that names one node
abbrev applies : (node range : ℕ) → NumberedLine
applies node range = record { number = 2; line = lines.Apply node range }

at_start : (node range : ℕ) → IsNode 1 node → range ≤ 7 → CanPlay 1 (first_player 1) (applies node range)
at_start node range n r = record {
  lines = [];
  played = refl;
  front = record {
    number = 1;
    follow = ((omega arith, omega arith), ((refl, (n, r)), tt));
    few = omega arith;
  };
}

pub first_line : (p : Player) (node range : ℕ) → p ≡ first_player 1 → IsNode 1 node → range ≤ 7
    → CanPlay (length p.world.nodes) p (record { number = 2; line = lines.Apply node range })
first_line p node range is n r =
    subst (λ (q : Player). CanPlay (length q.world.nodes) q (applies node range)) (sym is) (at_start node range n r)

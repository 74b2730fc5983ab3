-- What the bytes of a source are for the calls.
use Rattle.std.specs.Prelude.{ℕ, false, List, [], ◌∷◌, Result, Ok, Err}
use Rattle.rp_lines.specs.Players.{Limit, Played, Player, first_player}
use Rattle.rp_lines.specs.Scripts.{played_all}
use Rattle.rp_racelines.specs.Rules.{nodes_in}
use Rattle.rp_script.specs.Meaning.{meaning}
use Rattle.rp_script.specs.declared.faults.ScriptFault.{ScriptFault}
use Rattle.rp_script.specs.declared.faults.ScriptFault.TheVariants as faults
use Rattle.rp_script.specs.declared.lines.NumberedLine.{NumberedLine}

-- the lines of a script, or the first limit or refusal
abbrev pub script_of : List ℕ → Result (List NumberedLine) ScriptFault
script_of bytes = meaning false bytes

-- the lines behind the first
abbrev pub behind_first : List NumberedLine → List NumberedLine
behind_first [] = []
behind_first (l ∷ ls) = ls

-- the lines played one after another, from the nodes' start
abbrev pub play_of : List NumberedLine → Played
play_of lines = played_all (first_player (nodes_in lines)) lines

-- the limit at which playing ended, as what ends a run
abbrev pub limit_fault : Limit → ScriptFault
limit_fault limit = faults.Limit limit.which limit.count

abbrev pub by_play : Played → Result Player ScriptFault
by_play (Ok p) = Ok p
by_play (Err limit) = Err (limit_fault limit)

abbrev pub run_by : Result (List NumberedLine) ScriptFault → Result Player ScriptFault
run_by (Ok lines) = by_play (play_of lines)
run_by (Err fault) = Err fault

-- what a script leads to that is played to its end, or the first limit or refusal
abbrev pub run_of : List ℕ → Result Player ScriptFault
run_of bytes = run_by (script_of bytes)

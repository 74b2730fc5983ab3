-- The meaning of a script's bytes: its lines with their numbers, or the first limit or refusal.
use Rattle.std.specs.Prelude.{◌≡◌, ℕ, ◌+◌, Bool, List, [], ◌∷◌, ◌++◌, Option, Some, None, Result, Ok, Err}
use Rattle.rp_request.specs.Words.{lines_of}
use Rattle.rp_script.specs.Seen.{Seen, unseen, judged, after, unended}
use Rattle.rp_script.specs.declared.faults.LineKind.{LineKind}
use Rattle.rp_script.specs.declared.faults.ScriptFault.{ScriptFault}
use Rattle.rp_script.specs.declared.faults.ScriptFault.TheVariants as faults
use Rattle.rp_script.specs.declared.faults.ScriptStop.{ScriptStop}
use Rattle.rp_script.specs.declared.faults.ScriptStop.TheVariants as stops
use Rattle.rp_script.specs.declared.lines.NumberedLine.{NumberedLine}
use Rattle.rp_script.specs.declared.lines.ScriptLine.{ScriptLine}

infixl 10 ◌>>=◌
abbrev pub ◌>>=◌ : {A B E : Type 0} → Result A E → (A → Result B E) → Result B E
(Ok x) >>= f = f x
(Err e) >>= f = Err e

-- what line k says, under its number; a skipped line says nothing
abbrev pub numbered : ℕ → Option ScriptLine → List NumberedLine
numbered k None = []
numbered k (Some line) = record { number = k; line = line } ∷ []

-- lines in front of those that follow
abbrev pub in_front : List NumberedLine → Result (List NumberedLine) ScriptFault → Result (List NumberedLine) ScriptFault
in_front lines (Ok more) = Ok (lines ++ more)
in_front lines (Err fault) = Err fault

-- a source that ends behind its last line, which is line k - 1, without what is missing
abbrev pub ended_at : ℕ → Option LineKind → Result (List NumberedLine) ScriptFault
ended_at k None = Ok []
ended_at k (Some kind) = Err (faults.Refused k 0 kind)

-- what these lines say behind those that were seen: the first limit or refusal ends them
abbrev pub meant : Seen → List (List ℕ) → Result (List NumberedLine) ScriptFault
meant s [] = ended_at (s.lines + 1) (unended s)
meant s (line ∷ lines) = judged s line >>= λ said. in_front (numbered (s.lines + 1) said) (meant (after s said) lines)

-- the meaning of a script, a race's or another
abbrev pub meaning : Bool → List ℕ → Result (List NumberedLine) ScriptFault
meaning race bytes = meant (unseen race) (lines_of bytes)

-- what stops the reading stands for a fault of the script, or for none at want of memory
abbrev pub script_fault : ScriptStop → Option ScriptFault
script_fault (stops.Judged fault) = Some fault
script_fault stops.NoMemory = None

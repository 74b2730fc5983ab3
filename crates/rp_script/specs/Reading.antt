-- A script read byte after byte, which gives its meaning.
use Rattle.std.specs.Prelude.{◌≡◌, ℕ, ◌+◌, ◌*◌, ◌==◌, Bool, List, [], ◌∷◌, ◌++◌, length, Option, Some, None, Result, Ok, Err, if◌then◌else◌}
use Rattle.rp_base.specs.declared.Which.TheVariants.{Lines, LineBytes}
use Rattle.rp_script.specs.Seen.{Seen, unseen, judged, after, unended}
use Rattle.rp_script.specs.Meaning.{◌>>=◌, numbered, meaning}
use Rattle.rp_script.specs.declared.faults.LineKind.{LineKind}
use Rattle.rp_script.specs.declared.faults.ScriptFault.{ScriptFault}
use Rattle.rp_script.specs.declared.faults.ScriptFault.TheVariants.{Refused, Limit}
use Rattle.rp_script.specs.declared.lines.NumberedLine.{NumberedLine}
use Rattle.rp_script.specs.declared.lines.ScriptLine.{ScriptLine}

-- what is kept while a script is read: what must be known of the lines that ended, the bytes of the line that has begun,
-- and what the lines said
pub record Reading : Type 0 where
  pub seen : Seen
  pub line : List ℕ
  pub taken : List NumberedLine

-- nothing was read yet
abbrev pub unread : Bool → Reading
unread race = record { seen = unseen race; line = []; taken = [] }

-- the line that has begun ends here, and says this
abbrev pub line_taken : Reading → Option ScriptLine → Reading
line_taken r said = record { seen = after r.seen said; line = []; taken = r.taken ++ numbered (r.seen.lines + 1) said }

abbrev pub line_ended : Reading → Result Reading ScriptFault
line_ended r = judged r.seen r.line >>= λ said. Ok (line_taken r said)

-- one byte more: none follows the last line that may come, nor the last byte that a line may have
abbrev pub fed : Reading → ℕ → Result Reading ScriptFault
fed r b =
    if r.seen.lines == 65536 then Err (Limit Lines 65537)
    else (if b == 10 then line_ended r
    else (if length r.line == 256 then Err (Limit LineBytes 257)
    else Ok (record { seen = r.seen; line = r.line ++ b ∷ []; taken = r.taken })))

-- the bytes one after another; those behind the first limit or refusal are not looked at
abbrev pub fed_all : Reading → List ℕ → Result Reading ScriptFault
fed_all r [] = Ok r
fed_all r (b ∷ bytes) = fed r b >>= λ s. fed_all s bytes

-- the source ends behind an ended line
abbrev pub closed_at : ℕ → List NumberedLine → Option LineKind → Result (List NumberedLine) ScriptFault
closed_at k taken None = Ok taken
closed_at k taken (Some kind) = Err (Refused k 0 kind)

abbrev pub closed : Reading → Result (List NumberedLine) ScriptFault
closed r = closed_at (r.seen.lines + 1) r.taken (unended r.seen)

-- the end of the source, with the bytes of a line that has begun: it ends here
abbrev pub finished : Reading → List ℕ → Result (List NumberedLine) ScriptFault
finished r [] = closed r
finished r (b ∷ line) = line_ended r >>= closed

-- what a reading that has come so far makes of the bytes that are left
abbrev pub verdict : Reading → List ℕ → Result (List NumberedLine) ScriptFault
verdict r bytes = fed_all r bytes >>= λ s. finished s s.line

-- a byte takes the reading further, and the limits end it
abbrev pub weight : Reading → ℕ
weight r = r.seen.lines * 257 + length r.line

-- to read byte after byte gives the meaning
abbrev pub ReadsMeaning : Type 0
ReadsMeaning = (race : Bool) (bytes : List ℕ) → verdict (unread race) bytes ≡ meaning race bytes

-- the pieces in which a source comes make no difference
abbrev pub ReadsPieces : Type 0
ReadsPieces = (r : Reading) (xs ys : List ℕ) → fed_all r (xs ++ ys) ≡ (fed_all r xs >>= λ s. fed_all s ys)

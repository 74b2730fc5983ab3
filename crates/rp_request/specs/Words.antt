-- The lines of a script, and the words of a line.
use Rattle.std.specs.Prelude.{ℕ, ◌==◌, Bool, true, false, List, [], ◌∷◌, filter, if◌then◌else◌}

-- a byte is put in front of the first of these texts, or makes one of its own
abbrev pub begun_with : ℕ → List (List ℕ) → List (List ℕ)
begun_with b [] = (b ∷ []) ∷ []
begun_with b (text ∷ texts) = (b ∷ text) ∷ texts

-- the lines of a script: byte 10 ends a line, and the last line may lack it
abbrev pub lines_of : List ℕ → List (List ℕ)
lines_of [] = []
lines_of (b ∷ bytes) = if b == 10 then [] ∷ lines_of bytes else begun_with b (lines_of bytes)

-- the pieces of a line between its spaces
abbrev pub pieces : List ℕ → List (List ℕ)
pieces [] = [] ∷ []
pieces (b ∷ bytes) = if b == 32 then [] ∷ pieces bytes else begun_with b (pieces bytes)

abbrev pub has_bytes : List ℕ → Bool
has_bytes [] = false
has_bytes (b ∷ bytes) = true

-- the words of a line: its longest runs of bytes other than the space
abbrev pub words_of : List ℕ → List (List ℕ)
words_of line = filter has_bytes (pieces line)

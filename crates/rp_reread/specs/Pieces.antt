-- A text as the pieces between its spaces, and numbers without a 0 in front.
use Rattle.std.specs.Prelude.{ℕ, ◌==◌, Bool, true, not, List, [], ◌∷◌, Option, None, Some}
use Rattle.rp_request.specs.Words.{pieces}

-- the pieces of what is left of a text, if anything is
abbrev pub left_in : Option (List ℕ) → List (List ℕ)
left_in (Some text) = pieces text
left_in None = []

-- what stands behind the first byte
abbrev pub behind_space : List ℕ → Option (List ℕ)
behind_space [] = None
behind_space (b ∷ bytes) = Some bytes

-- no 0 stands in front of another digit
abbrev pub is_shortest : List ℕ → Bool
is_shortest [] = true
is_shortest (b ∷ []) = true
is_shortest (b ∷ c ∷ rest) = not (b == 48)

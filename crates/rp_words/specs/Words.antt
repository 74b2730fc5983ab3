-- The words of a command line: options, their values, and what is neither.
use Rattle.std.specs.Prelude.{ℕ, ◌==◌, ◌&&◌, Bool, true, false, not, if◌then◌else◌, List, [], ◌∷◌, ◌++◌, Option, None, Some, is_some, option_map, option_and_then, find}
use Rattle.std.specs.List.{list_any, before_first, after_first}
use Rattle.std.specs.Str.{bytes_eq}

abbrev pub Text : Type 0
Text = List ℕ

-- what follows a hyphen (45)
abbrev pub behind_hyphen : Text → Option Text
behind_hyphen [] = None
behind_hyphen (b ∷ bs) = if b == 45 then Some bs else None

-- a name, and what stands behind its first `=` (61), if there is one
abbrev pub name_and_value : Text → Text × Option Text
name_and_value text = (
  before_first (λ b. b == 61) text,
  if list_any (λ b. b == 61) text then Some (after_first (λ b. b == 61) text) else None,
)

abbrev pub named_in : Text → Option (Text × Option Text)
named_in [] = None
named_in (b ∷ bs) = Some (name_and_value (b ∷ bs))

-- a word that names an option: `--NAME`, or `--NAME=VALUE`
abbrev pub named : Text → Option (Text × Option Text)
named word = option_and_then named_in (option_and_then behind_hyphen (behind_hyphen word))

-- a word that begins with a hyphen and names no option: `-`, `--`, `-x`
abbrev pub is_odd : Text → Bool
is_odd word = is_some (behind_hyphen word) && not (is_some (named word))

-- an option with its value
abbrev pub Given : Type 0
Given = Text × Text

-- one of the names is this
abbrev pub is_known : List Text → Text → Bool
is_known names name = list_any (λ n. bytes_eq n name) names

-- the option stands among those that are given
abbrev pub stands : Text → List Given → Bool
stands name gs = list_any (λ g. bytes_eq g.0 name) gs

-- the value of an option, where it is given
abbrev pub value_of : Text → List Given → Option Text
value_of name gs = option_map (λ g. g.1) (find (λ g. bytes_eq g.0 name) gs)

-- one option more, which does not stand there yet, and then the rest
abbrev pub adds : Text → Text → List Given → (List Given → Option (List Given)) → Option (List Given)
adds name value gs rest = if stands name gs then None else rest (gs ++ (name, value) ∷ [])

-- an option of these names, with its value in the same word, or with its value to come
abbrev pub takes : List Text → Option (Text × Option Text) → List Given → (List Given → Option (List Given)) → (Text → Option (List Given)) → Option (List Given)
takes names None gs rest waits = None
takes names (Some (name, Some value)) gs rest waits =
    if is_known names name then adds name value gs rest else None
takes names (Some (name, None)) gs rest waits = if is_known names name then waits name else None

-- the options that words give, in any order, each at most once, with a value in the same word or in
-- the next one; `waiting` is the option whose value comes next
abbrev pub given : List Text → List Given → Option Text → List Text → Option (List Given)
given names gs None [] = Some gs
given names gs (Some name) [] = None
given names gs None (word ∷ words) =
    takes names (named word) gs (λ more. given names more None words) (λ name. given names gs (Some name) words)
given names gs (Some name) (word ∷ words) =
    if is_some (named word) then None
    else adds name word gs (λ more. given names more None words)

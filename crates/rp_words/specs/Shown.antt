-- What clap keeps of a line of words, and what it asks for.
use Rattle.std.specs.Prelude.{ℕ, if◌then◌else◌, List, [], ◌∷◌, map, Option, None, Some, option_map, option_and_then, codes}
use Rattle.std.specs.Str.{bytes_eq}
use Rattle.clap.specs.Walk.{Row, Rule, reading_by}
use Rattle.clap.specs.Simple.{filled}
use Rattle.clap.specs.declared.parser.matches.ValueSource.TheVariants.{CommandLine}
use Rattle.rp_words.specs.Words.{Text, Given}
use Rattle.rp_words.specs.Asked.{Line, run, race, gen, form_or_text, plan_by, script_by}
use Rattle.rp_words.specs.App.{option_rule, word_rule}
use Rattle.rp_words.specs.declared.asks.Asked.{Asked}
use Rattle.rp_words.specs.declared.asks.Asked.TheVariants as asks

-- an option with what clap fills in, and a word that has to stand at a position
abbrev pub opt : Text → Rule
opt name = filled (option_rule name)

abbrev pub place : Text → ℕ → Rule
place name i = record (filled (word_rule name)) { index = Some i }

-- what is kept of a value
abbrev pub kept : Text → Rule → Text → Row
kept id rule value = record {
  id = id;
  values = value ∷ [];
  count = None;
  source = Some CommandLine;
  reading = reading_by rule;
}

abbrev pub row : Given → Row
row g = kept g.0 (opt g.0) g.1

abbrev pub gen_rows : Text → Text → List Row
gen_rows a b = kept (codes "number") (place (codes "number") 1) a ∷ kept (codes "size") (place (codes "size") 2) b ∷ []

-- the command that is entered, and what is kept of its words
abbrev pub shown : Line → Text × List Row
shown (run gs) = (codes "run", map row gs)
shown (race gs) = (codes "race", map row gs)
shown (gen a b) = (codes "gen", gen_rows a b)

-- what a command asks for, by its name and the values that are found
abbrev pub asked_at : Text → (Text → Option Text) → Option Asked
asked_at name value =
    if bytes_eq name (codes "run") then option_map asks.Run (form_or_text (value (codes "form")))
    else (if bytes_eq name (codes "race") then option_map asks.Race (plan_by value)
    else option_and_then (λ number. option_and_then (script_by number) (value (codes "size")))
    (value (codes "number")))

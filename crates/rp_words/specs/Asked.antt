-- What the words of the program ask for.
use Rattle.std.specs.Prelude.{ℕ, ◌≤◌, ◌^◌, ◌-◌, ◌&&◌, ◌||◌, nat_le, is_some, if◌then◌else◌, List, [], ◌∷◌, Option, None, Some, option_map, option_and_then, codes, Result, Ok, Err}
use Rattle.std.specs.List.{list_any}
use Rattle.std.specs.Str.{bytes_eq}
use Rattle.rp_base.specs.Numbers.{u64_of}
use Rattle.rp_base.specs.declared.numbers.NumberFault.{NumberFault}
use Rattle.rp_words.specs.Words.{Text, Given, is_odd, named, value_of, given}
use Rattle.rp_words.specs.declared.asks.Form.{Form}
use Rattle.rp_words.specs.declared.asks.Form.TheVariants as forms
use Rattle.rp_words.specs.declared.asks.RacePlan.{RacePlan}
use Rattle.rp_words.specs.declared.asks.Asked.{Asked}
use Rattle.rp_words.specs.declared.asks.Asked.TheVariants as asks

-- a command with its options, or with its two words
pub data Line : Type 0 where
  run : List Given → Line
  race : List Given → Line
  gen : Text → Text → Line

-- the options of `run` and of `race`
abbrev pub run_names : List Text
run_names = codes "form" ∷ []

abbrev pub race_names : List Text
race_names = codes "workers" ∷ codes "loss" ∷ codes "salt" ∷ codes "quota" ∷ codes "form" ∷ []

-- two words that name no option
abbrev pub two_words : List Text → Option Line
two_words [] = None
two_words (a ∷ []) = None
two_words (a ∷ b ∷ []) = if is_some (named a) || is_some (named b) then None else Some (gen a b)
two_words (a ∷ b ∷ c ∷ more) = None

-- a command by its name, with what stands behind it
abbrev pub line_of : List Text → Option Line
line_of [] = None
line_of (name ∷ words) =
    if bytes_eq (codes "run") name then option_map run (given run_names [] None words)
    else (if bytes_eq (codes "race") name then option_map race (given race_names [] None words)
    else (if bytes_eq (codes "gen") name then two_words words
    else None))

-- a number from `low` to `high`
abbrev pub ranged : (low high : ℕ) → Result ℕ NumberFault → Option ℕ
ranged low high (Ok n) = if nat_le low n && nat_le n high then Some n else None
ranged low high (Err fault) = None

abbrev pub number_in : (low high : ℕ) → Text → Option ℕ
number_in low high word = ranged low high (u64_of word)

-- the number of an option, or another where it is not given
abbrev pub number_or : (default low high : ℕ) → Option Text → Option ℕ
number_or default low high None = Some default
number_or default low high (Some word) = number_in low high word

-- the form that a word names
abbrev pub form_named : Text → Option Form
form_named word =
    if bytes_eq word (codes "text") then Some forms.Text
    else (if bytes_eq word (codes "json") then Some forms.Json
    else (if bytes_eq word (codes "summary") then Some forms.Summary
    else None))

-- the form that is asked for, text where none is
abbrev pub form_or_text : Option Text → Option Form
form_or_text None = Some forms.Text
form_or_text (Some word) = form_named word

-- how a race is run, by the values of its options: 1 to 8 workers, else 2; 0 to 50 of a hundred
-- messages lost, else none; a salt, else 1; a quota of 1 to 65,536 units, else 1,024; a form
abbrev pub plan_by : (Text → Option Text) → Option RacePlan
plan_by value =
    option_and_then (λ workers. option_and_then (λ loss. option_and_then (λ salt. option_and_then (λ quota.
    option_map (λ form. record { workers = workers; loss = loss; salt = salt; quota = quota; form = form })
    (form_or_text (value (codes "form"))))
    (number_or 1024 1 65536 (value (codes "quota"))))
    (number_or 1 0 (2 ^ 64 - 1) (value (codes "salt"))))
    (number_or 0 0 50 (value (codes "loss"))))
    (number_or 2 1 8 (value (codes "workers")))

-- a script's number, and how many commands it has
abbrev pub script_by : (number size : Text) → Option Asked
script_by number size =
    option_and_then (λ n. option_map (asks.Gen n) (number_in 1 20000 size))
    (number_in 0 (2 ^ 64 - 1) number)

-- a race that is asked for has 1 to 8 workers, loses at most 50 of a hundred messages, and has 1 to
-- 65,536 units
pub record IsPlan (plan : RacePlan) : Type 0 where
  pub some_workers : 1 ≤ plan.workers
  pub few_workers : plan.workers ≤ 8
  pub half : plan.loss ≤ 50
  pub some_units : 1 ≤ plan.quota
  pub few_units : plan.quota ≤ 65536

-- and a script has 1 to 20,000 commands
abbrev pub IsSized : Asked → Type 0
IsSized (asks.Run form) = Unit {0}
IsSized (asks.Race plan) = IsPlan plan
IsSized (asks.Gen number size) = (1 ≤ size) × (size ≤ 20000)

-- what a command asks for
abbrev pub asked_in : Line → Option Asked
asked_in (run gs) = option_map asks.Run (form_or_text (value_of (codes "form") gs))
asked_in (race gs) = option_map asks.Race (plan_by (λ name. value_of name gs))
asked_in (gen number size) = script_by number size

-- what the words ask for, where they ask for something
unfoldable pub asked_of : List Text → Option Asked
asked_of words = if list_any is_odd words then None else option_and_then asked_in (line_of words)

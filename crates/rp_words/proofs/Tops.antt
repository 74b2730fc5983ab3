-- The command line: clap takes words exactly where they are a line of the table.
use Rattle.std.proofs.Common.{◌≡◌, ℕ, ◌||◌, Bool, true, false, cond, List, [], ◌∷◌, ◌++◌, map, Option, None, Some, is_some, refl, sym, ap, ap₂, subst, ◌∙◌}
use Rattle.std.specs.Prelude.{codes, option_map}
use Rattle.std.specs.List.{fold, list_any}
use Rattle.std.specs.Str.{bytes_eq}
use Rattle.clap.specs.Walk.{Held, Row, Text, Walk, Names, finished, idle, nothing_held, rows_after, settled, walk, walk_from, walked}
use Rattle.clap.specs.Simple.{App, Shape, built, entered, names_of, subcommand_of}
use Rattle.clap.specs.Faults.{check_fault, defaults_fault, entered_fault, fault_of, level_fault, settle_fault, turn_fault, walk_fault}
use Rattle.clap.specs.Kinds.{Kinds, or_else}
use Rattle.clap.specs.declared.error.kind.ErrorKind.TheVariants as kind
use Rattle.clap.proofs.WalkLemmas.{walk_stopped}
use Rattle.clap.proofs.FaultLemmas.{stopped_fault}
use Rattle.rp_words.specs.Words.{Given, named, is_odd, given}
use Rattle.rp_words.specs.Asked.{Line, run, race, gen, line_of, two_words, run_names, race_names}
use Rattle.rp_words.specs.App.{rp_app}
use Rattle.rp_words.specs.Shown.{row, gen_rows, shown}
use Rattle.rp_words.proofs.Shapes.{opts, leaf, gen_leaf}
use Rattle.rp_words.proofs.Turns.{IsNamed, is_named, IsPlainWord, is_plain, at}
use Rattle.rp_words.proofs.Options.{Agrees, AllEven, first_empty, some_kind, then_none, or_left, or_right}
use Rattle.rp_words.proofs.Levels.{AgreesOn, options_agree, words_agree}

-- the command as clap builds it
abbrev rp : App
rp = built rp_app

abbrev names : Names
names = names_of rp

-- what comes of a walk over the words and of its faults
abbrev from : Walk → Kinds → Kinds
from w k = or_else k (or_else (entered_fault rp w.stopped) (or_else (settle_fault rp.top.rules false w.held)
    (or_else (defaults_fault (settled rp.top.rules w.held).rows rp.top.rules) (check_fault rp.top (finished rp.top.rules w.held) (is_some (entered rp w.stopped))))))

whole : (words : List Text) → fault_of rp_app words ≡ from (walk rp.top.rules names nothing_held words) (walk_fault rp.top names (walk_from nothing_held) words)
whole words = refl

-- the walk once the name of a command was met
abbrev met : Text → List Text → Walk
met name words = record (walk_from nothing_held) { stopped = Some (name, words) }

entered_from : (name : Text) (words : List Text) → walk_fault rp.top names (met name []) words ≡ []
entered_from name words = stopped_fault rp.top names (walk_from nothing_held) (name, []) words

-- the first word is the name of a command
meets : (word name : Text) (words : List Text) → turn_fault rp.top names (walk_from nothing_held) word ≡ [] → walked rp.top.rules names (walk_from nothing_held) word ≡ met name []
    → (fault_of rp_app (word ∷ words) ≡ from (met name words) []) × (subcommand_of rp_app (word ∷ words) ≡ entered rp (Some (name, words)))
unfolding walk_fault
meets word name words none is =
    let ends : fold (walked rp.top.rules names) (walked rp.top.rules names (walk_from nothing_held) word) words ≡ met name words =
    ap (λ (w : Walk). fold (walked rp.top.rules names) w words) is ∙ sym (walk_stopped rp.top.rules names (walk_from nothing_held) name [] words) in
    let faults : or_else (turn_fault rp.top names (walk_from nothing_held) word) (walk_fault rp.top names (walked rp.top.rules names (walk_from nothing_held) word) words) ≡ [] =
    ap (λ (t : Kinds). or_else t (walk_fault rp.top names (walked rp.top.rules names (walk_from nothing_held) word) words)) none
    ∙ ap (λ (w : Walk). walk_fault rp.top names w words) is ∙ entered_from name words in
    (ap₂ from ends faults, ap (λ (w : Walk). entered rp w.stopped) ends)

-- a word that names a command, by whichever test finds it
names_run : (word : Text) → bytes_eq (codes "run") word ≡ true
    → (turn_fault rp.top names (walk_from nothing_held) word ≡ []) × (walked rp.top.rules names (walk_from nothing_held) word ≡ met (codes "run") [])
unfolding walked
names_run word e = (rw e refl, rw e refl)

names_race : (word : Text) → bytes_eq (codes "run") word ≡ false → bytes_eq (codes "race") word ≡ true
    → (turn_fault rp.top names (walk_from nothing_held) word ≡ []) × (walked rp.top.rules names (walk_from nothing_held) word ≡ met (codes "race") [])
unfolding walked
names_race word e f = (rw (e, f) refl, rw (e, f) refl)

names_gen : (word : Text) → bytes_eq (codes "run") word ≡ false → bytes_eq (codes "race") word ≡ false → bytes_eq (codes "gen") word ≡ true
    → (turn_fault rp.top names (walk_from nothing_held) word ≡ []) × (walked rp.top.rules names (walk_from nothing_held) word ≡ met (codes "gen") [])
unfolding walked
names_gen word e f g = (rw (e, f, g) refl, rw (e, f, g) refl)

-- what a command that was met comes to
in_run : (words : List Text) → from (met (codes "run") words) [] ≡ level_fault (leaf (codes "run") run_names) [] nothing_held words false []
unfolding defaults_fault
in_run words = then_none _

in_race : (words : List Text) → from (met (codes "race") words) [] ≡ level_fault (leaf (codes "race") race_names) [] nothing_held words false []
unfolding defaults_fault
in_race words = then_none _

in_gen : (words : List Text) → from (met (codes "gen") words) [] ≡ level_fault gen_leaf [] nothing_held words false []
unfolding defaults_fault
in_gen words = then_none _

-- no command is named
nameless : (word : Text) → is_odd word ≡ false → bytes_eq (codes "run") word ≡ false → bytes_eq (codes "race") word ≡ false → bytes_eq (codes "gen") word ≡ false
    → turn_fault rp.top names (walk_from nothing_held) word ≡ [] → ⊥
nameless word even e f g = go (named word) refl
  where
    go : (o : Option (Text × Option Text)) → named word ≡ o → turn_fault rp.top names (walk_from nothing_held) word ≡ [] → ⊥
    go None none =
        let is = is_plain word even none in
        let stray : turn_fault rp.top names (walk_from nothing_held) word ≡ kind.UnknownArgument ∷ kind.InvalidSubcommand ∷ [] = rw (e, f, g, is.dashes, is.long, is.short) refl in
        λ h. cc
    go (Some q) some =
        let is = is_named word q some in
        let out : turn_fault rp.top names (walk_from nothing_held) word ≡ kind.UnknownArgument ∷ [] = rw (e, f, g, is.dashes, is.long) refl in
        λ h. cc

-- ---- the table

-- there is a fault exactly where there is no line, and else the line is what is entered
abbrev pub Parses : Kinds → Option (Text × List Row) → Option Line → Type 0
Parses kinds sub None = kinds ≡ [] → ⊥
Parses kinds sub (Some line) = (kinds ≡ []) × (sub ≡ Some (shown line))

run_parses : (kinds : Kinds) (rs : List Row) (o : Option (List Given)) → Agrees kinds rs o → Parses kinds (Some (codes "run", rs)) (option_map run o)
run_parses kinds rs None h = h
run_parses kinds rs (Some gs) h = (h.0, ap (λ (x : List Row). let p : Option (Text × List Row) = Some (codes "run", x) in p) h.1)

race_parses : (kinds : Kinds) (rs : List Row) (o : Option (List Given)) → Agrees kinds rs o → Parses kinds (Some (codes "race", rs)) (option_map race o)
race_parses kinds rs None h = h
race_parses kinds rs (Some gs) h = (h.0, ap (λ (x : List Row). let p : Option (Text × List Row) = Some (codes "race", x) in p) h.1)

gen_parses : (kinds : Kinds) (rs : List Row) (o : Option Line) → AgreesOn kinds rs o → Parses kinds (Some (codes "gen", rs)) o
gen_parses kinds rs None h = h
gen_parses kinds rs (Some (gen a b)) h = (h.0, ap (λ (x : List Row). let p : Option (Text × List Row) = Some (codes "gen", x) in p) h.1)
gen_parses kinds rs (Some line) h = absurd h

moved : (kinds level : Kinds) (sub there : Option (Text × List Row)) (o : Option Line) → kinds ≡ level → sub ≡ there → Parses level there o → Parses kinds sub o
moved kinds level sub there o e f h = subst (λ (k : Kinds). Parses k sub o) (sym e) (subst (λ (x : Option (Text × List Row)). Parses level x o) (sym f) h)

pub table : (words : List Text) → AllEven words → Parses (fault_of rp_app words) (subcommand_of rp_app words) (line_of words)
unfolding walk_fault defaults_fault
table [] even = some_kind kind.MissingSubcommand _ refl
table (word ∷ words) even = by_run (bytes_eq (codes "run") word) refl
  where
    by_gen : bytes_eq (codes "run") word ≡ false → bytes_eq (codes "race") word ≡ false → (b : Bool) → bytes_eq (codes "gen") word ≡ b
        → Parses (fault_of rp_app (word ∷ words)) (subcommand_of rp_app (word ∷ words)) (cond b (two_words words) None)
    by_gen e f true g =
        let turn = names_gen word e f g in
        let there = meets word (codes "gen") words turn.0 turn.1 in
        moved _ _ _ _ _ (there.0 ∙ in_gen words) there.1 (gen_parses _ _ _ (words_agree words (or_right _ _ even)))
    by_gen e f false g = λ h. nameless word (or_left _ _ even) e f g (first_empty _ _ (first_empty _ _ h))

    by_race : bytes_eq (codes "run") word ≡ false → (b : Bool) → bytes_eq (codes "race") word ≡ b
        → Parses (fault_of rp_app (word ∷ words)) (subcommand_of rp_app (word ∷ words)) (cond b (option_map race (given race_names [] None words)) (cond (bytes_eq (codes "gen") word) (two_words words) None))
    by_race e true f =
        let turn = names_race word e f in
        let there = meets word (codes "race") words turn.0 turn.1 in
        moved _ _ _ _ _ (there.0 ∙ in_race words) there.1 (race_parses _ _ _ (options_agree (codes "race") race_names words (or_right _ _ even)))
    by_race e false f = by_gen e f (bytes_eq (codes "gen") word) refl

    by_run : (b : Bool) → bytes_eq (codes "run") word ≡ b
        → Parses (fault_of rp_app (word ∷ words)) (subcommand_of rp_app (word ∷ words))
        (cond b (option_map run (given run_names [] None words)) (cond (bytes_eq (codes "race") word) (option_map race (given race_names [] None words)) (cond (bytes_eq (codes "gen") word) (two_words words) None)))
    by_run true e =
        let turn = names_run word e in
        let there = meets word (codes "run") words turn.0 turn.1 in
        moved _ _ _ _ _ (there.0 ∙ in_run words) there.1 (run_parses _ _ _ (options_agree (codes "run") run_names words (or_right _ _ even)))
    by_run false e = by_race e (bytes_eq (codes "race") word) refl
